use Rattle.std.proofs.Common.{◌++◌, ◌+◌, ◌*◌, true, ap, ◌∙◌, arith}
use Rattle.drill_gen.specs.Drill.{alone, paired}
use Rattle.drill_gen.specs.declared.transaction.Transaction.{Transaction}
use Rattle.drill_gen.proofs.Drawing.{pair_more, last_alone, none_left}
use Rattle.drill_gen.proofs.drill.push_pairs.Goals as goal

pub loop-nth-preserved : goal.loop-nth-preserved
loop-nth-preserved c =
    let first = c.draw_transaction-first in
    let second = c.draw_transaction-second in (
      second.ensures.small,
      omega (arith, c.loop-nth-test.true),
      pair_more c.args.count c.loop-nth.turns c.push_pair.new.turns _ c.loop-nth.draws.x (2 * c.loop-nth._nth) (2 * (c.loop-nth._nth + 1)) first.new.draws.x _ (omega arith) (omega (arith, c.loop-nth-test.true))
          first.ensures.on second.ensures.on (c.in_ok-push_pair.ensures ∙ (λ k. c.loop-nth.turns ++ paired (first.ensures.drawn k) (second.ensures.drawn k))) c.loop-nth.invariant.2,
    )

pub returns-in_ok-push_alone : goal.returns-in_ok-push_alone
returns-in_ok-push_alone c =
    let inv = c.loop-nth.invariant in
    last_alone c.args.count c.loop-nth.turns c.push_alone.new.turns _ c.loop-nth.draws.x (2 * c.loop-nth._nth) (omega (arith, c.loop-nth-test.false, c.if-count-eq1.true, inv.1))
    (c.in_ok-push_alone.ensures ∙ ap (λ (t : Transaction). c.loop-nth.turns ++ alone t) c.draw_transaction-last.ensures.drawn) inv.2

pub returns-else-count-eq1 : goal.returns-else-count-eq1
returns-else-count-eq1 c =
    let inv = c.loop-nth.invariant in
    none_left true c.loop-nth.draws.x (2 * c.loop-nth._nth) c.args.count c.loop-nth.turns _ (omega (arith, c.loop-nth-test.false, c.if-count-eq1.false, inv.1)) inv.2
