use Rattle.std.proofs.Common.{◌<◌, arith}
use Rattle.std.specs.Fmt.{decimal}
use Rattle.script_text.proofs.Fields.{line_told}
use Rattle.script_text.proofs.Words.{no_space}
use Rattle.script_text.proofs.Numbers.{fields}
use Rattle.script_text.proofs.number.split_below.Goals as goal

pub returns-in_err-word : goal.returns-in_err-word
returns-in_err-word c = rw c.from_residual.ensures (λ p is e. no_space c.args.bytes.now (decimal p.0) p.1 c.in_err-word.ensures e)

pub returns-in_err-n : goal.returns-in_err-n
returns-in_err-n c = rw c.from_residual-in_err-n.ensures (λ p is e.
    let both = fields c.args.bytes.now _ _ p.0 c.args.limit p.1 (omega arith) c.in_ok-word.ensures.0 c.in_ok-word.ensures.1 is e in
    c.in_err-n.ensures p.0 (omega (arith, is, c.from.ensures)) both.0)

pub returns : goal.returns
returns c =
    let number = c.in_ok-n.ensures in
    let below : c.in_ok-n.n < c.args.limit = omega (arith, number.0, c.from.ensures) in
    (below, line_told c.args.bytes.now _ _ _ c.in_ok-word.ensures.1 number.1)
