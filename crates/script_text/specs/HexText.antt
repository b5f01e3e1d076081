-- Bytes as hexadecimal text.
use Rattle.std.specs.Prelude.{ℕ, ◌≡◌, ◌≤◌, ◌⊎◌, List, length}
use Rattle.hex.specs.Hex.{encode_lower, IsBytes}

-- two digits for each byte, the high one first, in lower case
abbrev pub hex_of : List ℕ → List ℕ
hex_of bytes = encode_lower bytes

-- 1 to 1,024 bytes
abbrev pub IsBlock : List ℕ → Type 0
IsBlock bytes = (1 ≤ length bytes) × (length bytes ≤ 1024) × IsBytes bytes

-- the hexadecimal text of 1 to 1,024 bytes
abbrev pub IsHex : List ℕ → Type 0
IsHex text = (bytes : List ℕ) × IsBlock bytes × (text ≡ hex_of bytes)

-- `0` to `9`, or `a` to `f`
abbrev pub IsDigit : ℕ → Type 0
IsDigit c = ((48 ≤ c) × (c ≤ 57)) ⊎ ((97 ≤ c) × (c ≤ 102))
