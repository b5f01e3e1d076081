-- Writes into the cells of a logger, and from them into the data.
use Rattle.std.specs.Prelude.{ℕ, zero, suc, ◌≡◌, ◌+◌, ◌≤◌, ◌<◌, List, [], ◌∷◌, ◌++◌, length, map}
use Rattle.array_shape.specs.declared.shape.Shape.{Shape}
use Rattle.array_shape.specs.Places.{cell_at, place_of}
use Rattle.row_bytes.specs.Written.{head_bytes}
use Rattle.array_shape.specs.Logged.{Part}
use Rattle.array_image.specs.Image.{cell_of, parts_from, IsGoodCell}

-- the writes that put parts into the cells of number t at logger g from e on: each its head with its bytes behind that
abbrev pub cell_writes : Shape → ℕ → ℕ → ℕ → List Part → List (ℕ × List ℕ)
cell_writes shape g t e [] = []
cell_writes shape g t e (p ∷ ps) =
    (cell_at shape g t e, head_bytes (record { addr = p.0; len = length p.1 }) ++ p.1) ∷ cell_writes shape g t (e + 1) ps

-- where n cells of number t at logger g lie, from e on
abbrev pub cell_ranges : Shape → ℕ → ℕ → ℕ → ℕ → List (ℕ × ℕ)
cell_ranges shape g t e zero = []
cell_ranges shape g t e (suc n) = (cell_at shape g t e, 528) ∷ cell_ranges shape g t (e + 1) n

-- the cells of number t at logger g hold these parts, from e on
pub record HoldsParts (shape : Shape) (image : List ℕ) (g t e : ℕ) (parts : List Part) : Type 0 where
  pub hold : parts_from shape image g t e (length parts) ≡ parts
  pub good : (k : ℕ) → e ≤ k → k < e + length parts → IsGoodCell shape g (cell_of shape image g t k)

-- parts with their places on the medium instead of their addresses
abbrev pub in_media : Shape → List Part → List (ℕ × List ℕ)
in_media shape parts = map (λ p. (place_of shape p.0, p.1)) parts
