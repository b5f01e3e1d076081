-- The bytes of an image's rows.
use Rattle.std.specs.Prelude.{ℕ, ◌≡◌, ◌<◌, Bool, if◌then◌else◌, List, ◌∷◌, drop}
use Rattle.mars_base.specs.Bytes.{range}
use Rattle.array_shape.specs.declared.shape.Shape.{Shape}
use Rattle.array_shape.specs.Places.{row_at}
use Rattle.row_bytes.specs.Written.{vote_byte}

-- the 16 bytes of the row of number t at logger g
abbrev pub bytes_of : Shape → List ℕ → ℕ → ℕ → List ℕ
bytes_of shape image g t = range image (row_at shape g t) 16

-- all rows of an image have these bytes
abbrev pub HasRowBytes : Shape → List ℕ → (ℕ → ℕ → List ℕ) → Type 0
HasRowBytes shape image rows = (g t : ℕ) → g < shape.loggers → t < shape.numbers → bytes_of shape image g t ≡ rows g t

-- rows, once the votes of those that a test takes are cast or cleared: byte 0 becomes 0xC3 or 0, and nothing else changes
abbrev pub with_votes : (ℕ → ℕ → Bool) → Bool → (ℕ → ℕ → List ℕ) → ℕ → ℕ → List ℕ
with_votes test voted rows g t = if test g t then vote_byte voted ∷ drop 1 (rows g t) else rows g t
