use Rattle.std.proofs.Common.{◌++◌, false, ap, ◌∙◌, arith}
use Rattle.drill_gen.specs.Drill.{alone}
use Rattle.drill_gen.specs.declared.transaction.Transaction.{Transaction}
use Rattle.drill_gen.proofs.Drawing.{single_more, none_left}
use Rattle.drill_gen.proofs.drill.push_singles.Goals as goal

pub loop-nth-preserved : goal.loop-nth-preserved
loop-nth-preserved c =
    let inv = c.loop-nth.invariant in
    let drawn = c.draw_transaction-drawn.ensures in (
      drawn.small,
      omega (arith, c.loop-nth-test.true),
      single_more c.args.count c.loop-nth.turns c.push_alone.new.turns _ c.loop-nth.draws.x c.loop-nth._nth _ (omega (arith, c.loop-nth-test.true)) drawn.on
          (c.in_ok-push_alone.ensures ∙ ap (λ (t : Transaction). c.loop-nth.turns ++ alone t) drawn.drawn) inv.2,
    )

pub returns : goal.returns
returns c =
    let inv = c.loop-nth.invariant in
    none_left false c.loop-nth.draws.x c.loop-nth._nth c.args.count c.loop-nth.turns _ (omega (arith, c.loop-nth-test.false, inv.1)) inv.2
