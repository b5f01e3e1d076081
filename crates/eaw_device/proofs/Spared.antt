-- What the making of a new array spares: its cells.
use Rattle.std.proofs.Common.{◌≡◌, ℕ, ◌+◌, ◌-◌, ◌*◌, ◌/◌, ◌<◌, ◌≤◌, List, [], ◌∷◌, ◌∙◌, ap, arith}
use Rattle.pcm_media.specs.Images.{Content, Touched}
use Rattle.pcm_media.proofs.Left.{same_bytes}
use Rattle.array_shape.specs.declared.shape.Shape.{Shape}
use Rattle.array_shape.specs.Places.{row_at, place_of, page_count}
use Rattle.array_shape.proofs.Apart.{place_along}
use Rattle.array_image.specs.Image.{cell_of}
use Rattle.array_image.specs.Standing.{SameCells}
use Rattle.array_image.proofs.Places.{row_no_cell, cell_no_data}
use Rattle.array_image.proofs.Rows.{cell_away}

pub cells_then : (shape : Shape) (a b c : List ℕ) → SameCells shape a b → SameCells shape b c → SameCells shape a c
cells_then shape a b c one two g t e lt below below' = two g t e lt below below' ∙ one g t e lt below below'

module _ (shape : Shape) (at n : ℕ) (old new : Content) (touched : Touched ((at, n) ∷ []) old new) where
  pub page_spares : (p : ℕ) → p < page_count shape → at ≡ place_of shape (512 * p) → n ≡ 512 → SameCells shape old.bytes new.bytes
  page_spares p lt is size g t e lt' below below' = cell_away shape ((at, n) ∷ []) old.bytes new.bytes g t e touched.bytes (λ i from to. (
    (λ le past.
        let along = place_along shape (512 * p) (i - at) (omega arith) in
        cell_no_data shape g t e (512 * p + (i - at)) i below below' (omega arith) from to (omega (arith, along, is))),
    tt,
  ))

  pub rows_spare : (h : ℕ) → at ≡ row_at shape h 0 → n ≡ 16 * shape.numbers → SameCells shape old.bytes new.bytes
  rows_spare h is size g t e lt below below' = cell_away shape ((at, n) ∷ []) old.bytes new.bytes g t e touched.bytes (λ i from to. (
    (λ le past. row_no_cell shape h g ((i - at) / 16) t e i (omega arith) below below' (omega (arith, is)) (omega (arith, is)) from to),
    tt,
  ))

  pub header_spares : at + n ≤ 512 → SameCells shape old.bytes new.bytes
  header_spares within g t e lt below below' = cell_away shape ((at, n) ∷ []) old.bytes new.bytes g t e touched.bytes (λ i from to. ((λ le past. omega arith), tt))

-- nothing was written
pub none_spares : (shape : Shape) (old new : Content) → Touched [] old new → SameCells shape old.bytes new.bytes
none_spares shape old new touched g t e lt below below' = ap (λ (bytes : List ℕ). cell_of shape bytes g t e) (same_bytes old new touched)
