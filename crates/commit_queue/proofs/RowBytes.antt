-- The bytes of a row: its vote and its body.
use Rattle.std.proofs.Common.{◌≡◌, ℕ, ◌+◌, ◌<◌, ◌≤◌, List, [], ◌∷◌, length, get_or, take, drop, sym, ◌∙◌, ap, arith}
use Rattle.std.proofs.lemmas.List.{drop-drop, drop-take}
use Rattle.mars_base.specs.Bytes.{range}
use Rattle.pcm_media.specs.Images.{SameOutside, IsOutside}
use Rattle.pcm_media.proofs.Ranges.{length-range, range_away}
use Rattle.array_shape.specs.declared.shape.Shape.{Shape}
use Rattle.array_shape.specs.Places.{media_len, row_at}
use Rattle.array_image.proofs.Places.{row_fits_in}
use Rattle.commit_queue.specs.Rows.{bytes_of}

pub whole : (vote : ℕ) (rest bytes : List ℕ) → length bytes ≡ 16 → get_or bytes 0 0 ≡ vote → drop 1 bytes ≡ rest → bytes ≡ vote ∷ rest
whole vote rest [] long is body = absurd (omega arith)
whole vote rest (b ∷ bs) long is body = (λ i. is i ∷ body i)

module _ (shape : Shape) where
  pub length-row : (image : List ℕ) → length image ≡ media_len shape → (g t : ℕ) → g < shape.loggers → t < shape.numbers → length (bytes_of shape image g t) ≡ 16
  length-row image long g t lt lt' = length-range image (row_at shape g t) 16 (omega (arith, row_fits_in shape g t lt lt'))

  pub body_is : (image : List ℕ) (g t : ℕ) → drop 1 (bytes_of shape image g t) ≡ range image (row_at shape g t + 1) 15
  body_is image g t = drop-take 1 15 (drop (row_at shape g t) image) ∙ ap (take 15) (drop-drop 1 (row_at shape g t) image)

  -- a body outside of what was written
  pub body_away : (ranges : List (ℕ × ℕ)) (old new : List ℕ) (g t : ℕ) → SameOutside ranges old new → ((i : ℕ) → row_at shape g t + 1 ≤ i → i < row_at shape g t + 16 → IsOutside ranges i) → drop 1 (bytes_of shape new g t) ≡ drop 1 (bytes_of shape old g t)
  body_away ranges old new g t same away = body_is new g t ∙ range_away ranges old new (row_at shape g t + 1) 15 same (λ i from below. away i from (omega arith)) ∙ sym (body_is old g t)
