use Rattle.std.proofs.Common.{inl, inr, arith}
use Rattle.script_text.proofs.HexTexts.{not_of_bytes}
use Rattle.script_text.proofs.hex_text.read_hex.Goals as goal

pub returns-then-text-eq1 : goal.returns-then-text-eq1
returns-then-text-eq1 c = not_of_bytes c.args.text.now (inl (omega arith))

pub returns : goal.returns
returns c = not_of_bytes c.args.text.now (inr (λ digits. cc (c.are_digits.ensures.1 digits)))
