use Rattle.std.proofs.Common.{arith}
use Rattle.script_text.proofs.HexTexts.{hex_is_long, hex_by_digits}
use Rattle.script_text.proofs.hex_text.is_hex.Goals as goal
use Rattle.script_text.proofs.hex_text.is_hex.Goals.{then-len-eq0-via-then-len-eq0, then-len-eq0-via-else-len-eq0+then-len, then-len-eq0-via-else-len-eq0+else-len+then-len-eq1}

pub returns-then-len-eq0 : goal.returns-then-len-eq0
returns-then-len-eq0 c = λ is.
    let long = hex_is_long c.args.text.now is in
    elim c.then-len-eq0.branch [
      | then-len-eq0-via-then-len-eq0 w ↦ omega (arith, long.0)
      | then-len-eq0-via-else-len-eq0+then-len w ↦ omega (arith, long.1)
      | then-len-eq0-via-else-len-eq0+else-len+then-len-eq1 w ↦ omega (arith, long.2)
    ]

pub returns : goal.returns
returns c = hex_by_digits c.args.text.now c.are_digits.result (omega arith) c.if-len.false c.if-len-eq1.false c.are_digits.ensures
