use Rattle.std.proofs.Common.{arith}
use Rattle.script_text.proofs.Fields.{same_long_fields}
use Rattle.script_text.proofs.Lines.{text_behind}
use Rattle.script_text.proofs.line.read_told.Goals as goal

pub returns-in_err-caller : goal.returns-in_err-caller
returns-in_err-caller c = rw c.from_residual.ensures (λ t is. c.in_err-caller.ensures (t.0, is.1) is.0 is.3)

pub returns-in_err-call : goal.returns-in_err-call
returns-in_err-call c = rw c.from_residual-in_err-call.ensures (λ t is.
    let here = c.in_ok-caller.ensures in
    let same = same_long_fields c.args.bytes.now _ is.1 c.in_ok-caller.caller t.0 (omega (arith, here.0)) (omega (arith, is.0)) here.1 is.3 in
    c.in_err-call.ensures t.1 (text_behind t.1 _ _ same.1 is.2))

pub returns : goal.returns
returns c =
    let here = c.in_ok-caller.ensures in
    (here.0, _, c.in_ok-call.ensures, here.1)
