-- What a row says once some of its bytes are written.
use Rattle.std.proofs.Common.{◌≡◌, ℕ, ◌+◌, ◌-◌, ◌<◌, List, [], ◌∷◌, length, get_or, sym, ◌∙◌, ap, arith}
use Rattle.std.specs.Prelude.{nat_eq}
use Rattle.mars_base.specs.Bytes.{put, range}
use Rattle.mars_base.proofs.Puts.{get_or-put_before, get_or-put_after, get_or-put_inside}
use Rattle.pcm_media.proofs.Ranges.{get_or-range}
use Rattle.array_shape.specs.declared.shape.Shape.{Shape}
use Rattle.array_shape.specs.Places.{media_len, row_at}
use Rattle.row_bytes.specs.declared.row.Row.{Row}
use Rattle.row_bytes.specs.Written.{row_rest}
use Rattle.row_bytes.proofs.Saying.{AreSmall, row, row_said-rest, row_said-vote}
use Rattle.array_image.specs.Image.{row_of}
use Rattle.array_image.proofs.Places.{row_fits_in}

module _ (shape : Shape) (g t : ℕ) (old : List ℕ) (long : length old ≡ media_len shape) (there : g < shape.loggers) (small : t < shape.numbers) where
  -- bytes 1 to 15
  pub row_of-put_rest : (r : Row) → AreSmall r
      → row_of shape (put old (row_at shape g t + 1) (row_rest r)) g t ≡ row (row_of shape old g t).voted r.mask r.first r.count r.group r.order
  row_of-put_rest r fits =
      let at = row_at shape g t in
      let new = put old (row_at shape g t + 1) (row_rest r) in
      let inside = row_fits_in shape g t there small in
      row_said-rest (range old (row_at shape g t) 16) (range (put old (row_at shape g t + 1) (row_rest r)) (row_at shape g t) 16) r fits
      (get_or-range new at 16 0 (omega arith) ∙ get_or-put_before old (at + 1) (row_rest r) (omega arith) (at + 0) (omega arith) ∙ sym (get_or-range old at 16 0 (omega arith)))
      (λ k lt. get_or-range new at 16 (k + 1) (omega arith)
      ∙ get_or-put_inside old (at + 1) (row_rest r) (omega arith) (at + (k + 1)) (omega arith) (omega arith)
      ∙ ap (λ (j : ℕ). get_or (row_rest r) j 0) (omega arith))

  -- byte 0
  pub row_of-put_vote : (vote : ℕ)
      → row_of shape (put old (row_at shape g t) (vote ∷ [])) g t ≡ row (nat_eq vote 0xC3) (row_of shape old g t).mask (row_of shape old g t).first (row_of shape old g t).count (row_of shape old g t).group (row_of shape old g t).order
  row_of-put_vote vote =
      let at = row_at shape g t in
      let new = put old (row_at shape g t) (vote ∷ []) in
      let inside = row_fits_in shape g t there small in
      row_said-vote (range old (row_at shape g t) 16) (range (put old (row_at shape g t) (vote ∷ [])) (row_at shape g t) 16) vote
      (get_or-range new at 16 0 (omega arith) ∙ get_or-put_inside old at (vote ∷ []) (omega arith) (at + 0) (omega arith) (omega arith) ∙ ap (λ (j : ℕ). get_or (vote ∷ []) j 0) (let none : at + 0 - at ≡ 0 = omega arith in none))
      (λ k le lt. get_or-range new at 16 k lt ∙ get_or-put_after old at (vote ∷ []) (omega arith) (at + k) (omega arith) ∙ sym (get_or-range old at 16 k lt))
