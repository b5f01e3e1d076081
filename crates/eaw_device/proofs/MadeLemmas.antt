-- Pages and rows of a new array, one after another.
use Rattle.std.proofs.Common.{◌≡◌, ℕ, ◌+◌, ◌-◌, ◌*◌, ◌<◌, ◌≤◌, inl, inr, List, [], ◌∷◌, length, get_or, sym, ap, subst, ◌∙◌, arith, replicate, below_more}
use Rattle.std.proofs.lemmas.Bool.{cases_lt, cases_eq}
use Rattle.std.proofs.lemmas.List.{ext_get_or, get_or-replicate, length-replicate}
use Rattle.mars_base.specs.Bytes.{put, range}
use Rattle.pcm_media.specs.Images.{SameOutside, IsOutside}
use Rattle.mars_base.proofs.Puts.{length-put, get_or-put_inside}
use Rattle.pcm_media.proofs.Left.{same_outside-put}
use Rattle.pcm_media.proofs.Ranges.{length-range, get_or-range, range_away, range-put}
use Rattle.array_shape.specs.declared.shape.Shape.{Shape}
use Rattle.array_shape.specs.Places.{media_len, row_at, data_at, page_count, data_len, place_of, logger_of, IsPlaced}
use Rattle.array_shape.proofs.Apart.{row_end, data_end, region_end, region_fits, place_start, place_end, place_below, place_along}
use Rattle.array_image.specs.Image.{data_of}
use Rattle.array_image.proofs.Data.{length-data_of, data_put, data_away}
use Rattle.eaw_device.specs.Made.{behind_header, behind_mark, HasPages, HasRows, HasParts}

-- pages of the same data
pub same_pages : (shape : Shape) (said : ℕ → List ℕ) (n : ℕ) (old new : List ℕ) → data_of shape new ≡ data_of shape old → HasPages shape said n old → HasPages shape said n new
same_pages shape said n old new same have p lt = ap (λ (d : List ℕ). range d (512 * p) 512) same ∙ have p lt

-- a write behind the header
pub within : (shape : Shape) (at n i : ℕ) → 512 ≤ at → at + n ≤ media_len shape → IsOutside (behind_header shape) i → IsOutside ((at, n) ∷ []) i
within shape at n i behind fits out = ((λ le lt. out.0 (omega arith) (omega arith)), tt)

-- the mark and all behind it lie in the array
pub whole : (shape : Shape) (i : ℕ) → IsOutside ((0, media_len shape) ∷ []) i → IsOutside (behind_mark shape) i × IsOutside ((0, 8) ∷ []) i
whole shape i out = (((λ le lt. out.0 (omega arith) (omega arith)), tt), ((λ le lt. out.0 (omega arith) (omega arith)), tt))

-- the numbers of the header and all behind it lie behind the mark
pub past_mark : (shape : Shape) (i : ℕ) → IsOutside (behind_mark shape) i → IsOutside (behind_header shape) i × IsOutside ((8, 504) ∷ []) i
past_mark shape i out = (((λ le lt. out.0 (omega arith) (omega arith)), tt), ((λ le lt. out.0 (omega arith) (omega arith)), tt))

-- what is written as the numbers of a header
pub numbers_range : (n i : ℕ) → n ≡ 504 → IsOutside ((8, 504) ∷ []) i → IsOutside ((8, n) ∷ []) i
numbers_range n i is out = subst (λ k. IsOutside ((8, k) ∷ []) i) (sym is) out

-- and as its mark
pub mark_range : (n i : ℕ) → n ≡ 8 → IsOutside ((0, 8) ∷ []) i → IsOutside ((0, n) ∷ []) i
mark_range n i is out = subst (λ k. IsOutside ((0, k) ∷ []) i) (sym is) out

module _ (shape : Shape) where
  pub page_fits : (p : ℕ) → p < page_count shape → place_of shape (512 * p) + 512 ≤ media_len shape
  page_fits p lt =
      omega (arith, place_below shape (512 * p + 511) (omega arith), place_along shape (512 * p) 511 (omega arith))

  pub rows_fit : (g : ℕ) → g < shape.loggers → row_at shape g 0 + 16 * shape.numbers ≤ media_len shape
  rows_fit g lt = omega (arith, data_end shape g, region_fits shape g lt)

module _ (shape : Shape) (image : List ℕ) (long : length image ≡ media_len shape) where
  -- one more page
  pub page_more : (said : ℕ → List ℕ) (p : ℕ) (page : List ℕ) → p < page_count shape → page ≡ said p → length page ≡ 512
      → HasPages shape said p image → HasPages shape said (p + 1) (put image (place_of shape (512 * p)) page)
  page_more said p page lt is size have =
      let placed : IsPlaced shape (512 * p) (length page) = record { some = omega (arith, size); page = omega (arith, size); inside = omega (arith, size) } in
      let now : data_of shape (put image (place_of shape (512 * p)) page) ≡ put (data_of shape image) (512 * p) page = data_put shape image (512 * p) page long placed in
      let fits : 512 * p + length page ≤ length (data_of shape image) = omega (arith, length-data_of shape image, size) in
      below_more _ _
      (λ q below.
      ap (λ (d : List ℕ). range d (512 * q) 512) now
      ∙ range_away _ (data_of shape image) (put (data_of shape image) (512 * p) page) (512 * q) 512 (same_outside-put (data_of shape image) (512 * p) page fits)
      (λ i le past. ((λ le' past'. omega arith), tt))
      ∙ have q below)
      (ap (λ (d : List ℕ). range d (512 * p) 512) now ∙ range-put (data_of shape image) page (512 * p) 512 (sym size) fits ∙ is)

  -- the rows of one logger are written with zeros
  module _ (g : ℕ) (zeros : List ℕ) (there : g < shape.loggers) (is : zeros ≡ replicate (16 * shape.numbers) 0) where
    size : length zeros ≡ 16 * shape.numbers
    size = ap length is ∙ length-replicate {A = ℕ} (16 * shape.numbers) 0

    fits : row_at shape g 0 + length zeros ≤ length image
    fits = omega (arith, size, rows_fit shape g there, long)

    row_zero : (t : ℕ) → t < shape.numbers → range (put image (row_at shape g 0) zeros) (row_at shape g t) 16 ≡ replicate 16 0
    row_zero t lt =
        let after = put image (row_at shape g 0) zeros in
        let inside : row_at shape g t + 16 ≤ length after = omega (arith, length-put image (row_at shape g 0) zeros fits, size, fits, lt) in
        ext_get_or 0 (range after (row_at shape g t) 16) (replicate 16 0) (length-range after (row_at shape g t) 16 inside ∙ sym (length-replicate {A = ℕ} 16 0))
        (λ i below.
        let small : i < 16 = omega (arith, length-range after (row_at shape g t) 16 inside) in
        get_or-range after (row_at shape g t) 16 i small
        ∙ get_or-put_inside image (row_at shape g 0) zeros fits (row_at shape g t + i) (omega arith) (omega (arith, size, lt))
        ∙ ap (λ (l : List ℕ). get_or l (row_at shape g t + i - row_at shape g 0) 0) is
        ∙ get_or-replicate (16 * shape.numbers) (row_at shape g t + i - row_at shape g 0) 0 0 (omega (arith, lt))
        ∙ sym (get_or-replicate 16 i 0 0 small))

    pub rows_more : HasRows shape g image → HasRows shape (g + 1) (put image (row_at shape g 0) zeros)
    rows_more have h t below lt = elim (cases_eq h g) [
      | inl same ↦ ap (λ (k : ℕ). range (put image (row_at shape g 0) zeros) (row_at shape k t) 16) same ∙ row_zero t lt
      | inr other ↦
          range_away _ image (put image (row_at shape g 0) zeros) (row_at shape h t) 16 (same_outside-put image (row_at shape g 0) zeros fits)
          (λ i le past. ((λ le' past'. omega (arith, row_end shape h t lt, data_end shape h, region_end shape h g (omega arith))), tt))
          ∙ have h t (omega arith) lt
    ]

    pub rows_apart : data_of shape (put image (row_at shape g 0) zeros) ≡ data_of shape image
    rows_apart = data_away shape _ image (put image (row_at shape g 0) zeros) (same_outside-put image (row_at shape g 0) zeros fits) (λ addr lt. (away addr lt, tt))
      where
        away : (addr : ℕ) → addr < data_len shape → row_at shape g 0 ≤ place_of shape addr → place_of shape addr < row_at shape g 0 + length zeros → ⊥
        away addr lt le past = elim (cases_lt (logger_of shape addr) g) [
          | inl below ↦ omega (arith, place_end shape addr lt, region_end shape (logger_of shape addr) g below)
          | inr from ↦ elim (cases_eq (logger_of shape addr) g) [
            | inl same ↦ omega (arith, place_start shape addr, ap (data_at shape) same, size)
            | inr other ↦ omega (arith, place_start shape addr, region_end shape g (logger_of shape addr) (omega arith), data_end shape g, size)
          ]
        ]

-- the header lies before all rows and pages
pub header_parts : (shape : Shape) (said : ℕ → List ℕ) (ranges : List (ℕ × ℕ)) (old new : List ℕ) → ((i : ℕ) → 512 ≤ i → IsOutside ranges i) → SameOutside ranges old new
    → HasParts shape said old → HasParts shape said new
header_parts shape said ranges old new within same have = record {
  rows = λ g t lt small. range_away ranges old new (row_at shape g t) 16 same (λ i le past. within i (omega arith)) ∙ have.rows g t lt small;
  pages = same_pages shape said (page_count shape) old new (data_away shape ranges old new same (λ addr lt. within (place_of shape addr) (omega (arith, place_start shape addr)))) have.pages;
}
