use Rattle.std.proofs.Common.{sym, subst}
use Rattle.script_text.specs.HexText.{IsHex}
use Rattle.script_text.proofs.Fields.{same_fields}
use Rattle.script_text.proofs.eaw_call.read_place_and_hex.Goals as goal

pub returns-else-is_hex : goal.returns-else-is_hex
returns-else-is_hex c = λ p is e.
    let same = same_fields c.args.bytes.now c.in_ok-n.hex.now p.1 c.in_ok-n.n p.0 c.in_ok-n.ensures.0 is.0 c.in_ok-n.ensures.1 e in
    c.if-is_hex.ensures (subst IsHex (sym same.1) is.1)
