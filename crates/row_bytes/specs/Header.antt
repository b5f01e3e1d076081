-- The header of an array: what its bytes say, and the bytes that are written.
use Rattle.std.specs.Prelude.{ℕ, ◌≡◌, ◌≢◌, List, ◌∷◌, ◌++◌, take, replicate, slice_index, codes}
use Rattle.byteorder.specs.Endian.{little_from, little_bytes}
use Rattle.array_shape.specs.declared.shape.Shape.{Shape}
use Rattle.array_shape.specs.declared.bad_shape.ShapeNumber.{ShapeNumber}
use Rattle.array_shape.specs.declared.bad_shape.ShapeNumber.TheVariants.{MediaLength}
use Rattle.array_shape.specs.Numbers.{IsFirstBad}
use Rattle.array_shape.specs.Places.{HasNumbers, media_len}
use Rattle.row_bytes.specs.declared.header.HeaderFault.{HeaderFault}
use Rattle.row_bytes.specs.declared.header.HeaderFault.TheVariants.{NotMars, BadShape}

-- the first eight bytes of every array
abbrev pub mark : List ℕ
mark = codes "MARSEAW1"

abbrev pub HasMark : List ℕ → Type 0
HasMark bytes = take 8 bytes ≡ mark

-- the entries and the pages that a header says
unfoldable pub entries_said : List ℕ → ℕ
entries_said bytes = little_from 10 2 bytes

unfoldable pub pages_said : List ℕ → ℕ
pages_said bytes = little_from 12 4 bytes

-- the header of an array of this shape, with its loggers in byte 8 and its numbers in byte 9; its other bytes say nothing
pub record SaysShape (bytes : List ℕ) (shape : Shape) : Type 0 where
  pub has_mark : HasMark bytes
  pub numbers : HasNumbers (slice_index bytes 8) (slice_index bytes 9) (entries_said bytes) (pages_said bytes) shape

-- the number that is wrong in a header with the mark: the first one out of range, or else the length of the medium
abbrev pub IsBadIn : List ℕ → ℕ → ShapeNumber → ℕ → Type 0
IsBadIn bytes size MediaLength given = (given ≡ size) × ((shape : Shape) × SaysShape bytes shape × (size ≢ media_len shape))
IsBadIn bytes size which given = IsFirstBad (slice_index bytes 8) (slice_index bytes 9) (entries_said bytes) (pages_said bytes) which given

-- what keeps a medium of `size` bytes that begins with these bytes from being an array
abbrev pub IsFaulty : List ℕ → ℕ → HeaderFault → Type 0
IsFaulty bytes size NotMars = ¬ HasMark bytes
IsFaulty bytes size (BadShape bad) = HasMark bytes × IsBadIn bytes size bad.which bad.given

-- the mark and the numbers
abbrev pub header_front : Shape → List ℕ
header_front shape = mark ++ shape.loggers ∷ shape.numbers ∷ (little_bytes 2 shape.entries ++ little_bytes 4 shape.pages)

-- the 512 bytes that are written: the mark and the numbers, and zeros
unfoldable pub header_bytes : Shape → List ℕ
header_bytes shape = header_front shape ++ replicate 496 0
