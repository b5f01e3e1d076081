use Rattle.std.proofs.Common.{◌++◌, ◌∙◌, true, false, arith}
use Rattle.drill_gen.specs.Drill.{in_turn}
use Rattle.drill_gen.proofs.Drawing.{drill_pairs, drill_singles}
use Rattle.drill_gen.proofs.drill.script.Goals as goal

pub returns-then-callers-ge2 : goal.returns-then-callers-ge2
returns-then-callers-ge2 c =
    c.in_ok-push_pairs.ensures ∙ (λ i. c.new-turns.ensures i ++ in_turn true (c.from.ensures i) c.args.transactions) ∙ drill_pairs c.args.seed c.args.transactions c.args.callers (omega (arith, c.if-callers-ge2.true))

pub returns : goal.returns
returns c =
    c.in_ok-push_singles.ensures ∙ (λ i. c.new-turns.ensures i ++ in_turn false (c.from.ensures i) c.args.transactions) ∙ drill_singles c.args.seed c.args.transactions c.args.callers (omega (arith, c.if-callers-ge2.false))
