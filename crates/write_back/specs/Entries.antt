-- Entries: where logged parts are to go, and the cells that hold them.
use Rattle.std.specs.Prelude.{ℕ, ◌<◌, ◌≡◌, nat_eq, if◌then◌else◌, List, [], ◌∷◌}
use Rattle.array_shape.specs.declared.shape.Shape.{Shape}
use Rattle.array_shape.specs.Places.{IsPlaced, logger_of}
use Rattle.array_shape.specs.Logged.{Part, ranges_of}
use Rattle.array_image.specs.Image.{cell_of, cell_part}
use Rattle.write_back.specs.declared.entry.Entry.{Entry}

-- its part lies in one page of the data, and its cell exists
pub record IsEntry (shape : Shape) (e : Entry) : Type 0 where
  pub placed : IsPlaced shape e.addr e.len
  pub cell : e.cell < shape.entries

-- where the parts of entries go: the address and length of each
abbrev pub ranges_in : List Entry → List (ℕ × ℕ)
ranges_in [] = []
ranges_in (e ∷ es) = (e.addr, e.len) ∷ ranges_in es

-- the parts that number t has in the cells of its entries
abbrev pub parts_in : Shape → List ℕ → ℕ → List Entry → List Part
parts_in shape image t [] = []
parts_in shape image t (e ∷ es) = cell_part (cell_of shape image (logger_of shape e.addr) t e.cell) ∷ parts_in shape image t es

-- the cells that entries have at logger g
abbrev pub cells_on : Shape → ℕ → List Entry → List ℕ
cells_on shape g [] = []
cells_on shape g (e ∷ es) = if nat_eq (logger_of shape e.addr) g then e.cell ∷ cells_on shape g es else cells_on shape g es

-- the cells of each number's entries have the addresses and lengths that the entries say
abbrev pub AreHeld : Shape → List ℕ → (ℕ → List Entry) → Type 0
AreHeld shape image entries = (t : ℕ) → t < shape.numbers → ranges_of (parts_in shape image t (entries t)) ≡ ranges_in (entries t)
