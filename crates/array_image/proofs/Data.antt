-- The data of an image, address by address.
use Rattle.std.proofs.Common.{◌≡◌, ℕ, zero, suc, ◌+◌, ◌-◌, ◌%◌, ◌<◌, ◌≤◌, inl, inr, ⊎_elim, List, [], ◌∷◌, ◌++◌, length, get_or, refl, sym, ◌∙◌, ap, subst, arith}
use Rattle.std.proofs.lemmas.List.{ext_get_or, get_or_past}
use Rattle.std.proofs.lemmas.Bool.{cases_lt, cases_eq}
use Rattle.mars_base.specs.Bytes.{put}
use Rattle.pcm_media.specs.Images.{SameOutside, IsOutside}
use Rattle.mars_base.proofs.Puts.{length-put, get_or-put_inside}
use Rattle.pcm_media.proofs.Left.{get_or-put_outside, outside-append}
use Rattle.array_shape.specs.declared.shape.Shape.{Shape}
use Rattle.array_shape.specs.Places.{media_len, data_len, place_of, IsPlaced}
use Rattle.array_image.specs.Joined.{joined}
use Rattle.array_shape.specs.Logged.{Part, applied, AllFit, ranges_of, places_of, AllPlaced, AllOwned}
use Rattle.array_image.specs.Image.{bytes_from, data_of}
use Rattle.array_image.proofs.Joined.{joined_more}
use Rattle.array_image.proofs.Applied.{applied-append}
use Rattle.array_image.proofs.Places.{place_next, same_place, place_fits_in}

module _ (shape : Shape) where
  length-bytes_from : (image : List ℕ) (addr n : ℕ) → length (bytes_from shape image addr n) ≡ n
  length-bytes_from image addr zero = refl
  length-bytes_from image addr (suc n) = ap suc (length-bytes_from image (addr + 1) n)

  get_or-bytes_from : (image : List ℕ) (addr n i : ℕ) → i < n → get_or (bytes_from shape image addr n) i 0 ≡ get_or image (place_of shape (addr + i)) 0
  get_or-bytes_from image addr zero i lt = absurd (omega arith)
  get_or-bytes_from image addr (suc n) zero lt = ap (λ (k : ℕ). get_or image (place_of shape k) 0) (omega arith)
  get_or-bytes_from image addr (suc n) (suc i) lt =
      get_or-bytes_from image (addr + 1) n i (omega arith) ∙ ap (λ (k : ℕ). get_or image (place_of shape k) 0) (omega arith)

  pub length-data_of : (image : List ℕ) → length (data_of shape image) ≡ data_len shape
  unfolding data_of
  length-data_of image = length-bytes_from image 0 (data_len shape)

  pub get_or-data_of : (image : List ℕ) (addr : ℕ) → addr < data_len shape → get_or (data_of shape image) addr 0 ≡ get_or image (place_of shape addr) 0
  unfolding data_of
  get_or-data_of image addr lt = get_or-bytes_from image 0 (data_len shape) addr lt ∙ ap (λ (k : ℕ). get_or image (place_of shape k) 0) (omega arith)

  -- images with the same bytes at the places of the data
  pub data_same : (old new : List ℕ) → ((addr : ℕ) → addr < data_len shape → get_or new (place_of shape addr) 0 ≡ get_or old (place_of shape addr) 0) → data_of shape new ≡ data_of shape old
  data_same old new same = ext_get_or 0 (data_of shape new) (data_of shape old) (length-data_of new ∙ sym (length-data_of old)) (λ i lt.
      let small : i < data_len shape = omega (arith, length-data_of new) in
      get_or-data_of new i small ∙ same i small ∙ sym (get_or-data_of old i small))

  pub data_away : (ranges : List (ℕ × ℕ)) (old new : List ℕ) → SameOutside ranges old new → ((addr : ℕ) → addr < data_len shape → IsOutside ranges (place_of shape addr)) → data_of shape new ≡ data_of shape old
  data_away ranges old new same away = data_same old new (λ addr lt. same.same (place_of shape addr) (away addr lt))

  -- an address outside a part has its place outside that part's place
  pub outside_place : (at len addr : ℕ) → IsPlaced shape at len → addr < data_len shape → (at ≤ addr → addr < at + len → ⊥) → place_of shape at ≤ place_of shape addr → place_of shape addr < place_of shape at + len → ⊥
  outside_place at len addr placed lt out from below =
      let k : ℕ = place_of shape addr - place_of shape at in
      let within : at % 512 + (place_of shape addr - place_of shape at) < 512 = omega (arith, placed.page) in
      let is : place_of shape (at + (place_of shape addr - place_of shape at)) ≡ place_of shape addr = place_next shape at (place_of shape addr - place_of shape at) within ∙ omega arith in
      let same = same_place shape (at + (place_of shape addr - place_of shape at)) addr (omega (arith, placed.inside)) lt is in
      out (omega (arith, same)) (omega (arith, same))

  pub outside_places : (ps : List Part) (addr : ℕ) → AllPlaced shape ps → addr < data_len shape → IsOutside (ranges_of ps) addr → IsOutside (places_of shape ps) (place_of shape addr)
  outside_places [] addr placed lt out = tt
  outside_places (p ∷ ps) addr placed lt out = (outside_place p.0 (length p.1) addr placed.0 lt out.0, outside_places ps addr placed.1 lt out.1)

  -- a place that no address has is outside all parts
  pub outside_data : (ps : List Part) (x : ℕ) → AllPlaced shape ps → ((addr : ℕ) → addr < data_len shape → x ≡ place_of shape addr → ⊥) → IsOutside (places_of shape ps) x
  outside_data [] x placed none = tt
  outside_data (p ∷ ps) x placed none = (one, outside_data ps x placed.1 none)
    where
      one : place_of shape p.0 ≤ x → x < place_of shape p.0 + length p.1 → ⊥
      one from below =
          let within : p.0 % 512 + (x - place_of shape p.0) < 512 = omega (arith, placed.0.page) in
          none (p.0 + (x - place_of shape p.0)) (omega (arith, placed.0.inside)) (omega (arith, place_next shape p.0 (x - place_of shape p.0) within))

  -- images that differ only where parts lie have data that do
  pub data_outside : (ps : List Part) (old new : List ℕ) → AllPlaced shape ps → SameOutside (places_of shape ps) old new → SameOutside (ranges_of ps) (data_of shape old) (data_of shape new)
  data_outside ps old new placed same = record {
    long = length-data_of new ∙ sym (length-data_of old);
    same = λ i out. ⊎_elim
        (λ small. get_or-data_of new i small ∙ same.same (place_of shape i) (outside_places ps i placed small out) ∙ sym (get_or-data_of old i small))
        (λ past. get_or_past (data_of shape new) i 0 (omega (arith, length-data_of new)) ∙ sym (get_or_past (data_of shape old) i 0 (omega (arith, length-data_of old))))
        (cases_lt i (data_len shape));
  }

  pub all_fit : (ps : List Part) → AllPlaced shape ps → AllFit (data_len shape) ps
  all_fit [] placed = tt
  all_fit (p ∷ ps) placed = (placed.0.inside, all_fit ps placed.1)

  pub all_fit_in : (ps : List Part) (image : List ℕ) → AllPlaced shape ps → AllFit (length (data_of shape image)) ps
  all_fit_in ps image placed = subst (λ n. AllFit n ps) (sym (length-data_of image)) (all_fit ps placed)

  pub all_placed : (g : ℕ) (ps : List Part) → AllOwned shape g ps → AllPlaced shape ps
  all_placed g [] owned = tt
  all_placed g (p ∷ ps) owned = (owned.0.placed, all_placed g ps owned.1)

  pub all_placed-append : (ps qs : List Part) → AllPlaced shape ps → AllPlaced shape qs → AllPlaced shape (ps ++ qs)
  all_placed-append [] qs placed placed' = placed'
  all_placed-append (p ∷ ps) qs placed placed' = (placed.0, all_placed-append ps qs placed.1 placed')

  -- a part that is written at its place is written at its address
  pub data_put : (image : List ℕ) (at : ℕ) (bytes : List ℕ) → length image ≡ media_len shape → IsPlaced shape at (length bytes) → data_of shape (put image (place_of shape at) bytes) ≡ put (data_of shape image) at bytes
  data_put image at bytes long placed =
      let data_long = length-data_of image in
      let inner : at + length bytes ≤ length (data_of shape image) = omega (arith, placed.inside) in
      let outer : place_of shape at + length bytes ≤ length image = fits in
      ext_get_or 0 (data_of shape (put image (place_of shape at) bytes)) (put (data_of shape image) at bytes)
      (length-data_of (put image (place_of shape at) bytes) ∙ sym data_long ∙ sym (length-put (data_of shape image) at bytes inner))
      (λ i lt.
      let small : i < data_len shape = omega (arith, length-data_of (put image (place_of shape at) bytes)) in
      get_or-data_of (put image (place_of shape at) bytes) i small ∙ elim (cases_lt i at) [
        | inl before ↦ elsewhere i small inner outer (λ le below. omega arith)
        | inr from ↦ elim (cases_lt i (at + length bytes)) [
          | inr past ↦ elsewhere i small inner outer (λ le below. omega arith)
          | inl below ↦
              let k_is : at + (i - at) ≡ i = omega arith in
              let is : place_of shape i ≡ place_of shape at + (i - at) = ap (λ (k : ℕ). place_of shape k) (sym k_is) ∙ place_next shape at (i - at) (omega (arith, placed.page)) in
              get_or-put_inside image (place_of shape at) bytes outer (place_of shape i) (omega (arith, is)) (omega (arith, is))
              ∙ ap (λ (k : ℕ). get_or bytes k 0) (omega (arith, is))
              ∙ sym (get_or-put_inside (data_of shape image) at bytes inner i from below)
        ]
      ])
    where
      fits : place_of shape at + length bytes ≤ length image
      fits =
          let last : at % 512 + (length bytes - 1) < 512 = omega (arith, placed.page, placed.some) in
          omega (arith, place_next shape at (length bytes - 1) last, place_fits_in shape (at + (length bytes - 1)) (omega (arith, placed.inside, placed.some)), placed.some)

      elsewhere : (i : ℕ) → i < data_len shape → at + length bytes ≤ length (data_of shape image) → place_of shape at + length bytes ≤ length image → (at ≤ i → i < at + length bytes → ⊥)
          → get_or (put image (place_of shape at) bytes) (place_of shape i) 0 ≡ get_or (put (data_of shape image) at bytes) i 0
      elsewhere i small inner outer out =
          get_or-put_outside image (place_of shape at) bytes outer (place_of shape i) (outside_place at (length bytes) i placed small out)
          ∙ sym (get_or-data_of image i small) ∙ sym (get_or-put_outside (data_of shape image) at bytes inner i out)

  pub joined_placed : (lists : ℕ → List Part) (k n : ℕ) → ((i : ℕ) → k ≤ i → i < k + n → AllPlaced shape (lists i)) → AllPlaced shape (joined lists k n)
  joined_placed lists k zero placed = tt
  joined_placed lists k (suc n) placed = all_placed-append (lists k) (joined lists (k + 1) n) (placed k (omega arith) (omega arith)) (joined_placed lists (k + 1) n (λ i le lt. placed i (omega arith) (omega arith)))

  pub places_of-append : (ps qs : List Part) → places_of shape (ps ++ qs) ≡ places_of shape ps ++ places_of shape qs
  places_of-append [] qs = refl
  places_of-append (p ∷ ps) qs = ap (λ (l : List (ℕ × ℕ)). (place_of shape p.0, length p.1) ∷ l) (places_of-append ps qs)

  -- outside joined parts is outside each list of them
  pub outside_list : (lists : ℕ → List Part) (x k n : ℕ) → IsOutside (places_of shape (joined lists k n)) x → (g : ℕ) → k ≤ g → g < k + n → IsOutside (places_of shape (lists g)) x
  outside_list lists x k zero out g le lt = absurd (omega arith)
  outside_list lists x k (suc n) out g le lt =
      let both = outside-append (places_of shape (lists k)) (places_of shape (joined lists (k + 1) n)) x (subst (λ l. IsOutside l x) (places_of-append (lists k) (joined lists (k + 1) n)) out) in
      ⊎_elim (λ is. subst (λ j. IsOutside (places_of shape (lists j)) x) is both.0) (λ ne. outside_list lists x (k + 1) n both.1 g (omega arith) (omega arith)) (cases_eq k g)

-- one more list is applied
pub applied_more : (lists : ℕ → List Part) (n : ℕ) (d e f : List ℕ) → e ≡ applied (joined lists 0 n) d → f ≡ applied (lists n) e → f ≡ applied (joined lists 0 (n + 1)) d
applied_more lists n d e f before now =
    now ∙ ap (applied (lists n)) before ∙ sym (applied-append (joined lists 0 n) (lists n) d)
    ∙ ap (λ (l : List Part). applied l d) (ap (λ (k : ℕ). joined lists 0 n ++ lists k) here ∙ sym (joined_more lists 0 n) ∙ ap (λ (k : ℕ). joined lists 0 k) more)
  where
    here : n ≡ 0 + n
    here = omega arith

    more : suc n ≡ n + 1
    more = omega arith
