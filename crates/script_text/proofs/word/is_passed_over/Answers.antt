use Rattle.std.proofs.Common.{arith, sym}
use Rattle.std.proofs.lemmas.Bool.{eqb-false}
use Rattle.script_text.proofs.Lines.{passed_or_not}
use Rattle.script_text.proofs.word.is_passed_over.Goals as goal

pub returns : goal.returns
returns c =
    let filled = eqb-false _ _ (sym c.if-is_empty.ensures) in
    passed_or_not c.args.line.now (omega (arith, filled))
