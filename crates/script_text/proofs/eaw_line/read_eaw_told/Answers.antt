use Rattle.std.proofs.Common.{refl, arith}
use Rattle.script_text.proofs.EawCommands.{text_behind}
use Rattle.script_text.proofs.Fields.{same_long_fields}
use Rattle.script_text.proofs.eaw_line.read_eaw_told.Goals as goal

pub returns-in_err-number : goal.returns-in_err-number
returns-in_err-number c = rw c.from_residual.ensures (λ t is. c.in_err-number.ensures (t.0, is.1) is.0 is.3)

pub returns-in_err-call : goal.returns-in_err-call
returns-in_err-call c = rw c.from_residual-in_err-call.ensures (λ t is.
    let here = c.in_ok-number.ensures in
    let same = same_long_fields c.args.bytes.now _ is.1 c.in_ok-number.number t.0 (omega (arith, here.0)) (omega (arith, is.0)) here.1 is.3 in
    c.in_err-call.ensures t.0 t.1 (text_behind t.0 t.1 _ _ same.1 is.2))

pub returns : goal.returns
returns c =
    let t = c.in_ok-number.number in
    let here = c.in_ok-number.ensures in
    let call = c.in_ok-call.ensures t in
    ((t, call.0), (refl, call.1), (here.0, _, call.2, here.1))
