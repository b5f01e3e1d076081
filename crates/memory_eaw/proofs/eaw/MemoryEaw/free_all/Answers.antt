use Rattle.std.proofs.Common.{ℕ, List, sym, ◌∙◌, ap}
use Rattle.std.specs.Prelude.{None}
use Rattle.array_shape.specs.NumberSet.{members}
use Rattle.eaw_face.specs.State.{with_each}
use Rattle.memory_eaw.specs.Log.{logged}
use Rattle.memory_eaw.specs.Shown.{plain_of}
use Rattle.memory_eaw.proofs.Groups.{frees_next}
use Rattle.memory_eaw.proofs.eaw.MemoryEaw.free_all.Goals as goal

pub loop-tid-preserved : goal.loop-tid-preserved
loop-tid-preserved c =
    frees_next (plain_of c.args.self.now) (plain_of c.loop-tid.self) (plain_of c.free.new.self) (members c.args.tids) c.loop-tid.tid-iterator c.in-Some.tid c.next.new.self c.loop-tid.self.sound c.in-Some.ensures.steps c.loop-tid.invariant c.free.ensures

pub returns-clause-logs : goal.returns-clause-logs
returns-clause-logs c = ap (λ (ts : List ℕ). with_each (logged c.loop-tid.self.logs.items) ts None) (sym c.in-None.ensures.steps.0) ∙ c.loop-tid.invariant.logs
