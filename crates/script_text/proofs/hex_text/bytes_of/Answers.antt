use Rattle.std.proofs.Common.{◌≡◌, ◌*◌, ◌++◌, ℕ, List, length, take, drop, ap, ◌∙◌, arith}
use Rattle.std.proofs.lemmas.List.{take_at}
use Rattle.script_text.specs.HexText.{hex_of}
use Rattle.script_text.proofs.HexTexts.{length-hex_of}
use Rattle.script_text.proofs.hex_text.bytes_of.Goals as goal

-- a text has two digits for each byte
twice : (hex bytes : List ℕ) → hex ≡ hex_of bytes → length hex ≡ 2 * length bytes
twice hex bytes is = ap length is ∙ length-hex_of bytes

front : (hex bytes old new : List ℕ) (len : ℕ) → hex ≡ hex_of bytes → 2 * len ≡ length hex → new ≡ bytes ++ drop (length bytes) old → take len new ≡ bytes
front hex bytes old new len is count put = ap (λ xs. take len xs) put ∙ take_at bytes (drop (length bytes) old) len (omega (arith, count, twice hex bytes is))

pub hex_into-len-requires-clause-fits : goal.hex_into-len-requires-clause-fits
hex_into-len-requires-clause-fits c = let most = c.requires.1.1 in omega (arith, twice _ _ c.requires.2, most)

pub shared_ref_as_front-result : goal.shared_ref_as_front-result
shared_ref_as_front-result c = let most = c.requires.1.1 in omega (arith, twice _ _ c.requires.2, most, c.hex_into-len.ensures.count, c.hex_into-len.auto.buf)

pub returns : goal.returns
returns c = λ bytes block is. front _ bytes _ _ _ is c.hex_into-len.ensures.count (c.hex_into-len.ensures.bytes bytes block is)
