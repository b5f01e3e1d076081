use Rattle.std.proofs.Common.{◌<◌, length, ◌∙◌, subst, arith}
use Rattle.std.specs.Prelude.{All}
use Rattle.std.proofs.lemmas.List.{length-set}
use Rattle.std.proofs.lemmas.List.Elements.{All-head, All-tail}
use Rattle.array_shape.specs.NumberSet.{members}
use Rattle.mirror.proofs.Frees.{frees_step, frees_end}
use Rattle.mirror.proofs.primary.free_logs.Goals as goal

pub index_mut-requires : goal.index_mut-requires
index_mut-requires c =
    let logs = c.args.logs.now.items in
    let within = All-head (λ t. t < length logs) c.in-Some.tid c.next.new.self (subst (All (λ t. t < length logs)) c.in-Some.ensures.steps c.loop-tid.invariant.within) in
    omega (arith, within, c.loop-tid.invariant.len, c.from.ensures)

pub loop-tid-preserved : goal.loop-tid-preserved
loop-tid-preserved c =
    let logs = c.args.logs.now.items in
    let now = c.loop-tid.logs.items in
    let all = subst (All (λ t. t < length logs)) c.in-Some.ensures.steps c.loop-tid.invariant.within in
    let within = All-head (λ t. t < length logs) c.in-Some.tid c.next.new.self all in
    record {
      len = length-set now c.from.result c.free.new.self ∙ c.loop-tid.invariant.len;
      within = All-tail (λ t. t < length logs) c.in-Some.tid c.next.new.self all;
      freed = λ t. frees_step (members c.args.tids) c.loop-tid.tid-iterator c.in-Some.tid c.next.new.self c.in-Some.ensures.steps logs now (omega (arith, within, c.loop-tid.invariant.len))
          c.from.result c.from.ensures c.index_mut.result.now c.free.new.self c.index_mut.ensures.value c.free.ensures t (c.loop-tid.invariant.freed t);
    }

pub returns-clause-freed : goal.returns-clause-freed
returns-clause-freed c = λ t. frees_end (members c.args.tids) c.loop-tid.tid-iterator t _ _ c.in-None.ensures.steps.0 (c.loop-tid.invariant.freed t)
