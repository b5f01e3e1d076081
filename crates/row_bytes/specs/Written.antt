-- The bytes of rows and heads. Numbers are little-endian.
use Rattle.std.specs.Prelude.{ℕ, Bool, List, ◌∷◌, ◌++◌, replicate, if◌then◌else◌}
use Rattle.byteorder.specs.Endian.{little_bytes}
use Rattle.row_bytes.specs.declared.row.Row.{Row}
use Rattle.row_bytes.specs.declared.head.Head.{Head}

-- bytes 1 to 15 of a row: the mask, the first entry, the count, the group, the order number
abbrev pub row_rest : Row → List ℕ
row_rest row = row.mask ∷ (little_bytes 2 row.first ++ little_bytes 2 row.count ++ little_bytes 8 row.group ++ little_bytes 2 row.order)

-- the first byte of a row
abbrev pub vote_byte : Bool → ℕ
vote_byte voted = if voted then 0xC3 else 0

-- the 16 bytes of a row: the vote, and the rest
abbrev pub row_bytes : Row → List ℕ
row_bytes row = vote_byte row.voted ∷ row_rest row

-- the 16 bytes of a head: the address, the length, zeros
abbrev pub head_bytes : Head → List ℕ
head_bytes head = little_bytes 8 head.addr ++ little_bytes 2 head.len ++ replicate 6 0
