-- What an image of an array says: its rows, its cells and the parts in them, its data.
use Rattle.std.specs.Prelude.{ℕ, List, map, take, drop, slice_index}
use Rattle.std.specs.List.{range_with_len}
use Rattle.mars_base.specs.Bytes.{range}
use Rattle.array_shape.specs.declared.shape.Shape.{Shape}
use Rattle.array_shape.specs.Places.{row_at, cell_at, place_of, data_len}
use Rattle.row_bytes.specs.declared.row.Row.{Row}
use Rattle.row_bytes.specs.declared.head.Head.{Head}
use Rattle.row_bytes.specs.Said.{row_said, head_said}
use Rattle.array_shape.specs.Logged.{Part, IsOwned}

-- the row of number t at logger g
abbrev pub row_of : Shape → List ℕ → ℕ → ℕ → Row
row_of shape image g t = row_said (range image (row_at shape g t) 16)

-- the 528 bytes of cell e of number t at logger g
abbrev pub cell_of : Shape → List ℕ → ℕ → ℕ → ℕ → List ℕ
cell_of shape image g t e = range image (cell_at shape g t e) 528

-- what the 528 bytes of a cell say
abbrev pub cell_head : List ℕ → Head
cell_head cell = head_said (take 16 cell)

abbrev pub cell_part : List ℕ → Part
cell_part cell = ((cell_head cell).addr, take (cell_head cell).len (drop 16 cell))

-- the cell holds a part of logger g
abbrev pub IsGoodCell : Shape → ℕ → List ℕ → Type 0
IsGoodCell shape g cell = IsOwned shape g (cell_head cell).addr (cell_head cell).len

-- the parts in the cells that a row names
abbrev pub row_parts : Shape → List ℕ → ℕ → ℕ → List Part
row_parts shape image g t = let row = row_of shape image g t in map (λ e. cell_part (cell_of shape image g t e)) (range_with_len row.first row.count)

-- the data, in the order of addresses
unfoldable pub data_of : Shape → List ℕ → List ℕ
data_of shape image = map (λ (addr : ℕ). slice_index image (place_of shape addr)) (range_with_len 0 (data_len shape))

-- the parts in n cells of number t at logger g from e on
abbrev pub parts_from : Shape → List ℕ → ℕ → ℕ → ℕ → ℕ → List Part
parts_from shape image g t e n = map (λ (e : ℕ). cell_part (cell_of shape image g t e)) (range_with_len e n)

-- the bytes at n addresses from one on
abbrev pub bytes_from : Shape → List ℕ → ℕ → ℕ → List ℕ
bytes_from shape image addr n = map (λ (addr : ℕ). slice_index image (place_of shape addr)) (range_with_len addr n)
