use Rattle.std.proofs.Common.{ℕ, List, ◌∙◌, ap, subst}
use Rattle.eaw_device.specs.Logs.{IsKept}
use Rattle.array_shape.specs.NumberSet.{members}
use Rattle.eaw_face.specs.State.{is_one_of}
use Rattle.eaw_device.proofs.Clearing.{clears_first, clears_there, clears_kept, clears_next}
use Rattle.eaw_device.proofs.log.clear_logs.Goals as goal

pub loop-tid-init : goal.loop-tid-init
loop-tid-init c = clears_first c.args.shape.now c.args.logs.now (members c.args.tids) c.into_iter-tid-iterator.result (c.into_iter-tid-iterator.ensures.into_iter_gives ∙ c.members-tid-items.ensures) c.requires.there c.requires.kept

pub bounds-logs-at : goal.bounds-logs-at
bounds-logs-at c = clears_there c.args.shape.now c.args.logs.now c.loop-tid.logs (members c.args.tids) c.loop-tid.tid-iterator c.in-Some.tid c.from-at.result c.next.new.self c.in-Some.ensures.steps c.from-at.ensures c.loop-tid.invariant

pub clear-requires : goal.clear-requires
clear-requires c = subst (IsKept c.args.shape.now) c.index-logs-at.is (clears_kept c.args.shape.now c.args.logs.now c.loop-tid.logs (members c.args.tids) c.loop-tid.tid-iterator c.in-Some.tid c.from-at.result c.next.new.self c.in-Some.ensures.steps c.from-at.ensures c.loop-tid.invariant c.index-logs-at.result c.index-logs-at.is)

pub loop-tid-preserved : goal.loop-tid-preserved
loop-tid-preserved c =
    clears_next c.args.shape.now c.args.logs.now c.loop-tid.logs (members c.args.tids) c.loop-tid.tid-iterator c.in-Some.tid c.from-at.result c.next.new.self c.in-Some.ensures.steps c.from-at.ensures c.loop-tid.invariant
    c.clear.new.self c.clear.ensures.kept (record { is_free = c.clear.ensures.free; none = c.clear.ensures.entries })

pub returns-clause-freed : goal.returns-clause-freed
returns-clause-freed c = λ t so. c.loop-tid.invariant.freed t so (ap (λ (ts : List ℕ). is_one_of ts t) c.in-None.ensures.steps.0)
