-- One vote after another is cleared.
use Rattle.std.proofs.Common.{◌≡◌, ℕ, ◌<◌, List, [], ◌∷◌, arith}
use Rattle.pcm_media.specs.Images.{SameOutside}
use Rattle.array_shape.specs.declared.shape.Shape.{Shape}
use Rattle.array_shape.specs.Places.{row_at}
use Rattle.array_image.specs.Image.{row_of}
use Rattle.array_image.proofs.Places.{same_row}
use Rattle.array_image.proofs.Rows.{row_away}

module _ (shape : Shape) where
  -- a row stays if no vote of its own number and logger is written
  pub other_row : (g t n u : ℕ) (old new : List ℕ) → t < shape.numbers → u < shape.numbers → (g ≡ n → t ≡ u → ⊥) → SameOutside ((row_at shape n u, 1) ∷ []) old new → row_of shape new g t ≡ row_of shape old g t
  other_row g t n u old new lt lt' ne same = row_away shape ((row_at shape n u, 1) ∷ []) old new g t same (λ i from below. (
    (λ from' below'.
        let one = same_row shape g n t u i lt lt' from below (omega arith) (omega arith) in ne one.0 one.1),
    tt,
  ))
