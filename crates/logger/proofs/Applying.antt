-- The parts in cells are written into the data, one cell after another.
use Rattle.std.proofs.Common.{◌≡◌, ℕ, zero, suc, ◌+◌, ◌-◌, ◌<◌, ◌≤◌, Bool, List, [], ◌∷◌, ◌++◌, Result, length, refl, sym, ◌∙◌, ap, subst, arith}
use Rattle.std.specs.Prelude.{IsTrue, IsOk}
use Rattle.mars_base.specs.Bytes.{put}
use Rattle.pcm_media.specs.Images.{IsOutside}
use Rattle.pcm_media.specs.View.{View, Writes}
use Rattle.mars_base.proofs.Puts.{length-put}
use Rattle.pcm_media.proofs.Writing.{writes_none, writes_on}
use Rattle.array_shape.specs.declared.shape.Shape.{Shape}
use Rattle.array_shape.specs.Places.{media_len, place_of}
use Rattle.array_shape.proofs.Apart.{placed_fits}
use Rattle.array_shape.specs.Logged.{Part, applied, places_of, AllPlaced}
use Rattle.array_image.specs.Image.{cell_of, cell_part, parts_from, data_of, IsGoodCell}
use Rattle.array_image.proofs.Data.{data_put, outside_data, all_placed}
use Rattle.array_image.proofs.Places.{cell_no_data}
use Rattle.array_image.proofs.Rows.{cell_away, parts_owned}
use Rattle.logger.specs.Cells.{in_media}
use Rattle.logger.proofs.Ranges.{writes_told}
use Rattle.logger.proofs.Staging.{done, writes_done}

-- the parts at their places are the parts at their addresses
pub data_applied : (shape : Shape) (ps : List Part) (image : List ℕ) → length image ≡ media_len shape → AllPlaced shape ps → data_of shape (applied (in_media shape ps) image) ≡ applied ps (data_of shape image)
data_applied shape [] image long placed = refl
data_applied shape (p ∷ ps) image long placed =
    let fits = placed_fits shape p.0 (length p.1) placed.0 in
    let put_long = length-put image (place_of shape p.0) p.1 (omega arith) in
    data_applied shape ps (put image (place_of shape p.0) p.1) (put_long ∙ long) placed.1 ∙ ap (applied ps) (data_put shape image p.0 p.1 long placed.0)

-- with one more part at the end
applied_push : (shape : Shape) (ps : List Part) (p : Part) (image : List ℕ) → applied (in_media shape (ps ++ p ∷ [])) image ≡ put (applied (in_media shape ps) image) (place_of shape p.0) p.1
applied_push shape [] p image = refl
applied_push shape (q ∷ ps) p image = applied_push shape ps p (put image (place_of shape q.0) q.1)

module _ (shape : Shape) (g t : ℕ) where
  -- one more cell
  pub parts_more : (image : List ℕ) (e n : ℕ) → parts_from shape image g t e (suc n) ≡ parts_from shape image g t e n ++ cell_part (cell_of shape image g t (e + n)) ∷ []
  parts_more image e zero = ap (λ (k : ℕ). cell_part (cell_of shape image g t k) ∷ []) (omega arith)
  parts_more image e (suc n) =
      ap (λ (ps : List Part). cell_part (cell_of shape image g t e) ∷ ps)
      (parts_more image (e + 1) n ∙ ap (λ (k : ℕ). parts_from shape image g t (e + 1) n ++ cell_part (cell_of shape image g t k) ∷ []) (omega arith))

  -- the place of one of the parts
  one_place : (image : List ℕ) (e n k : ℕ) → k < n → (i : ℕ) → IsOutside (places_of shape (parts_from shape image g t e n)) i → IsOutside (places_of shape (cell_part (cell_of shape image g t (e + k)) ∷ [])) i
  one_place image e zero k lt i out = absurd (omega arith)
  one_place image e (suc n) zero lt i out =
      let here : e ≡ e + 0 = omega arith in
      subst (λ (j : ℕ). IsOutside (places_of shape (cell_part (cell_of shape image g t j) ∷ [])) i) here (out.0, tt)
  one_place image e (suc n) (suc k) lt i out =
      let here : e + 1 + k ≡ e + suc k = omega arith in
      subst (λ (j : ℕ). IsOutside (places_of shape (cell_part (cell_of shape image g t j) ∷ [])) i) here (one_place image (e + 1) n k (omega arith) i out.1)

-- Where the loop stands: the cells before e were applied.
pub record AppliedTo (shape : Shape) (g t first count : ℕ) (tells : Bool) (old now : View) (e : ℕ) : Type 0 where
  pub written : IsTrue tells → now.content.bytes ≡ applied (in_media shape (parts_from shape old.content.bytes g t first (e - first))) old.content.bytes
  pub does : Writes tells (places_of shape (parts_from shape old.content.bytes g t first count)) old now done

module _ (shape : Shape) (g t first count : ℕ) (tells : Bool) (old : View) where
  pub applied_none : AppliedTo shape g t first count tells old old first
  applied_none = record {
    written = λ told. let none : 0 ≡ first - first = omega arith in ap (λ (n : ℕ). applied (in_media shape (parts_from shape old.content.bytes g t first n)) old.content.bytes) none;
    does = writes_none tells (places_of shape (parts_from shape old.content.bytes g t first count)) old tt;
  }

  module _ (there : g < shape.loggers) (small : t < shape.numbers) (fits : first + count ≤ shape.entries) (long : IsTrue tells → length old.content.bytes ≡ media_len shape)
      (good : IsTrue tells → (e : ℕ) → first ≤ e → e < first + count → IsGoodCell shape g (cell_of shape old.content.bytes g t e)) where
    pub parts_placed : IsTrue tells → AllPlaced shape (parts_from shape old.content.bytes g t first count)
    parts_placed told = all_placed shape g (parts_from shape old.content.bytes g t first count) (parts_owned shape old.content.bytes g t first count (long told) there small fits (good told))

    module _ (now : View) (e : ℕ) (from : first ≤ e) (more : e < first + count) (so_far : AppliedTo shape g t first count tells old now e) where
      pub cell_kept : IsTrue tells → cell_of shape now.content.bytes g t e ≡ cell_of shape old.content.bytes g t e
      cell_kept told =
          cell_away shape (places_of shape (parts_from shape old.content.bytes g t first count)) old.content.bytes now.content.bytes g t e (so_far.does.touched told).bytes
          (λ i le lt. outside_data shape (parts_from shape old.content.bytes g t first count) i (parts_placed told) (λ addr in_data is. cell_no_data shape g t e addr i small (omega arith) in_data le lt is))

      pub cell_good : IsTrue tells → IsGoodCell shape g (cell_of shape now.content.bytes g t e)
      cell_good told = subst (IsGoodCell shape g) (sym (cell_kept told)) (good told e from more)

      place : first + (e - first) ≡ e
      place = omega arith

      one_within : (i : ℕ) → IsOutside (places_of shape (parts_from shape old.content.bytes g t first count)) i → IsOutside (places_of shape (cell_part (cell_of shape old.content.bytes g t e) ∷ [])) i
      one_within i out =
          subst (λ (j : ℕ). IsOutside (places_of shape (cell_part (cell_of shape old.content.bytes g t j) ∷ [])) i) place (one_place shape g t old.content.bytes first count (e - first) (omega arith) i out)

      -- one more cell, in the first bytes
      one_more : (let part = cell_part (cell_of shape old.content.bytes g t e) in
          put (applied (in_media shape (parts_from shape old.content.bytes g t first (e - first))) old.content.bytes) (place_of shape part.0) part.1)
          ≡ applied (in_media shape (parts_from shape old.content.bytes g t first (e + 1 - first))) old.content.bytes
      one_more =
          let image = old.content.bytes in
          let count_is : suc (e - first) ≡ e + 1 - first = omega arith in
          sym (applied_push shape (parts_from shape image g t first (e - first)) (cell_part (cell_of shape image g t e)) image)
          ∙ ap (λ (j : ℕ). applied (in_media shape (parts_from shape image g t first (e - first) ++ cell_part (cell_of shape image g t j) ∷ [])) image) (sym place)
          ∙ ap (λ (ps : List Part). applied (in_media shape ps) image) (sym (parts_more shape g t image first (e - first)) ∙ ap (parts_from shape image g t first) count_is)

      module _ {T E : Type 0} (new : View) (r : Result T E) (does : Writes tells (places_of shape (cell_part (cell_of shape now.content.bytes g t e) ∷ [])) now new r) where
        pub writes_more : Writes tells (places_of shape (parts_from shape old.content.bytes g t first count)) old new r
        writes_more =
            writes_on tells (places_of shape (parts_from shape old.content.bytes g t first count)) (places_of shape (cell_part (cell_of shape old.content.bytes g t e) ∷ [])) old now new done r refl one_within so_far.does
            (writes_told tells (places_of shape (cell_part (cell_of shape now.content.bytes g t e) ∷ [])) (places_of shape (cell_part (cell_of shape old.content.bytes g t e) ∷ [])) now new r
            (λ told. ap (λ (cell : List ℕ). places_of shape (cell_part cell ∷ [])) (cell_kept told)) does)

        pub applied_more : IsOk r → (IsTrue tells → new.content.bytes ≡ (let part = cell_part (cell_of shape now.content.bytes g t e) in put now.content.bytes (place_of shape part.0) part.1))
            → AppliedTo shape g t first count tells old new (e + 1)
        applied_more ok written = record {
          written = λ told. written told ∙ (λ i. let part = cell_part (cell_kept told i) in put (so_far.written told i) (place_of shape part.0) part.1) ∙ one_more;
          does = writes_done tells (places_of shape (parts_from shape old.content.bytes g t first count)) old new r ok writes_more;
        }

    -- when all were applied
    pub data_after : (now : View) (e : ℕ) → e ≡ first + count → AppliedTo shape g t first count tells old now e
        → IsTrue tells → data_of shape now.content.bytes ≡ applied (parts_from shape old.content.bytes g t first count) (data_of shape old.content.bytes)
    data_after now e last so_far told =
        let all : e - first ≡ count = omega arith in
        ap (data_of shape) (so_far.written told ∙ ap (λ (n : ℕ). applied (in_media shape (parts_from shape old.content.bytes g t first n)) old.content.bytes) all)
        ∙ data_applied shape (parts_from shape old.content.bytes g t first count) old.content.bytes (long told) (parts_placed told)
