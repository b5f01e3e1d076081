-- The parts of a range of the data, and those of a write with their bytes: both are cut at the multiples of 512.
use Rattle.std.specs.Prelude.{ℕ, zero, suc, ◌≡◌, ◌+◌, ◌-◌, ◌%◌, ◌≤◌, min, List, [], ◌∷◌, length, take, drop, filter, All, Bool, nat_eq}
use Rattle.array_shape.specs.declared.shape.Shape.{Shape}
use Rattle.array_shape.specs.declared.part.Part.{Part}
use Rattle.array_shape.specs.Places.{logger_of, IsPlaced}

-- how many bytes there are from an address to the end of its page
abbrev pub page_left : ℕ → ℕ
page_left addr = 512 - addr % 512

-- the first n parts of a range, each up to the end of its page or of the range
abbrev pub first_parts : Shape → ℕ → ℕ → ℕ → List Part
first_parts shape zero addr len = []
first_parts shape (suc n) addr zero = []
first_parts shape (suc n) addr (suc len) =
    record { logger = logger_of shape addr; addr = addr; len = min (page_left addr) (suc len) }
    ∷ first_parts shape n (addr + page_left addr) (suc len - page_left addr)

-- all parts of a range: none is empty, so there are at most as many as bytes
unfoldable pub parts_of : Shape → ℕ → ℕ → List Part
parts_of shape addr len = first_parts shape len addr len

-- parts that follow one another from an address on, without a gap, and have `len` bytes in all
abbrev pub Tile : ℕ → ℕ → List Part → Type 0
Tile addr len [] = len ≡ 0
Tile addr len (p ∷ ps) = (p.addr ≡ addr) × (p.len ≤ len) × Tile (addr + p.len) (len - p.len) ps

-- each part but the first begins a page
abbrev pub AreCutAtPages : List Part → Type 0
AreCutAtPages [] = Unit {0}
AreCutAtPages (p ∷ ps) = All (λ q. q.addr % 512 ≡ 0) ps

-- it lies in one page of the data, and that page is its logger's
pub record IsPartOf (shape : Shape) (part : Part) : Type 0 where
  pub placed : IsPlaced shape part.addr part.len
  pub logger : part.logger ≡ logger_of shape part.addr

-- the first n parts of a write, each up to the end of its page or of the bytes
abbrev pub first_parts_of_write : ℕ → ℕ → List ℕ → List (ℕ × List ℕ)
first_parts_of_write zero addr bytes = []
first_parts_of_write (suc n) addr [] = []
first_parts_of_write (suc n) addr (b ∷ bytes) =
    (addr, take (page_left addr) (b ∷ bytes)) ∷ first_parts_of_write n (addr + page_left addr) (drop (page_left addr) (b ∷ bytes))

-- a write of bytes at an address, cut at the multiples of 512: the address and the bytes of each part
unfoldable pub parts_of_write : ℕ → List ℕ → List (ℕ × List ℕ)
parts_of_write addr bytes = first_parts_of_write (length bytes) addr bytes

-- the address and the bytes of one part of a write
abbrev pub part_of_write : ℕ → List ℕ → Part → ℕ × List ℕ
part_of_write addr bytes part = (part.addr, take part.len (drop (part.addr - addr) bytes))

-- those of them that are of logger g
abbrev pub is_part_on : ℕ → Part → Bool
is_part_on g part = nat_eq part.logger g

abbrev pub parts_on : Shape → ℕ → ℕ → ℕ → List Part
parts_on shape g addr len = filter (is_part_on g) (parts_of shape addr len)

abbrev pub is_write_part_on : Shape → ℕ → ℕ × List ℕ → Bool
is_write_part_on shape g part = nat_eq (logger_of shape part.0) g

abbrev pub write_parts_on : Shape → ℕ → ℕ → List ℕ → List (ℕ × List ℕ)
write_parts_on shape g addr bytes = filter (is_write_part_on shape g) (parts_of_write addr bytes)
