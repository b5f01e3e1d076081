-- A part that is laid over bytes that were read.
use Rattle.std.proofs.Common.{◌≡◌, ℕ, zero, suc, ◌+◌, ◌-◌, ◌<◌, ◌≤◌, max, min, ◌⊎◌, inl, inr, List, [], ◌∷◌, length, take, refl, sym, ◌∙◌, ap, subst, arith}
use Rattle.std.specs.Prelude.{Option}
use Rattle.std.specs.Option.{option_map}
use Rattle.std.proofs.lemmas.List.{ext_get_or, get_or-take, length-take-le}
use Rattle.std.proofs.lemmas.Bool.{cases_lt}
use Rattle.mars_base.specs.Bytes.{put, range}
use Rattle.pcm_media.proofs.Ranges.{length-range, get_or-range}
use Rattle.array_shape.specs.declared.shape.Shape.{Shape}
use Rattle.array_shape.specs.Places.{data_len}
use Rattle.array_shape.specs.Logged.{Part, ranges_of, applied, AllFit, AllPlaced}
use Rattle.array_image.proofs.Applied.{length-applied}
use Rattle.array_image.proofs.Data.{all_fit}
use Rattle.page_store.proofs.Views.{fit-take}
use Rattle.eaw_face.specs.State.{listed, range_at, part_at}
use Rattle.page_store.proofs.Outline.{listed-ranges}
use Rattle.page_store.proofs.Reading.{part_missed, part_laid}

-- the range of a part at a position
part_range : (log : List Part) (pos : ℕ) → range_at (ranges_of log) pos ≡ ((part_at log pos).0, length (part_at log pos).1)
part_range [] pos = refl
part_range (p ∷ ps) zero = refl
part_range (p ∷ ps) (suc pos) = part_range ps pos

pub range_of_part : (ranges : Option (List (ℕ × ℕ))) (log : Option (List Part)) (pos : ℕ) → ranges ≡ option_map ranges_of log
    → range_at (listed ranges) pos ≡ ((part_at (listed log) pos).0, length (part_at (listed log) pos).1)
range_of_part ranges log pos is = ap (λ (rs : List (ℕ × ℕ)). range_at rs pos) (ap listed is ∙ listed-ranges log) ∙ part_range (listed log) pos

-- bytes of a front
range_front : (xs : List ℕ) (len a k : ℕ) → a + k ≤ len → len ≤ length xs → range (take len xs) a k ≡ range xs a k
range_front xs len a k fits le =
    let long : length (take len xs) ≡ len = length-take-le len xs le in
    ext_get_or 0 (range (take len xs) a k) (range xs a k) (length-range (take len xs) a k (omega (arith, long)) ∙ sym (length-range xs a k (omega arith)))
    (λ i lt. let below : i < k = omega (arith, lt, length-range (take len xs) a k (omega (arith, long))) in
    get_or-range (take len xs) a k i below ∙ get_or-take len xs (a + i) 0 (omega arith) ∙ sym (get_or-range xs a k i below))

module _ (bytes buf : List ℕ) (p : Part) (addr n start len first last : ℕ) (start_is : start ≡ p.0) (len_is : len ≡ length p.1)
    (first_is : first ≡ max start addr) (last_is : last ≡ min (start + len) (addr + n)) (fits : start + len ≤ length bytes) (inside : addr + n ≤ length bytes) (read : buf ≡ range bytes addr n) where
  pub missed : last ≤ first → 0 < len → buf ≡ range (put bytes p.0 p.1) addr n
  missed apart some = elim (cases_lt 0 n) [
    | inl more ↦ read ∙ sym (part_missed bytes p addr n (omega (arith, start_is, len_is)) (go more (cases_lt addr start)))
    | inr none ↦ let zero_is : n ≡ 0 = omega arith in
        read ∙ ap (λ (k : ℕ). range bytes addr k) zero_is ∙ ap (λ (k : ℕ). range (put bytes p.0 p.1) addr k) (sym zero_is)
  ]
    where
      go : 0 < n → (addr < start) ⊎ (start ≤ addr) → (addr + n ≤ p.0) ⊎ (p.0 + length p.1 ≤ addr)
      go more (inl lt) = inl (omega (arith, start_is, len_is, first_is, last_is, apart, some))
      go more (inr le) = elim (cases_lt addr (start + len)) [
        | inl within ↦ inl (omega (arith, start_is, len_is, first_is, last_is, apart, some, within, more))
        | inr past ↦ inr (omega (arith, start_is, len_is))
      ]

  pub laid : first < last → (part more : List ℕ) → take len part ≡ p.1 → len ≤ length part → more ≡ range part (first - start) (last - first)
      → put buf (first - addr) more ≡ range (put bytes p.0 p.1) addr n
  laid meets part more whole long is =
      let at : first - start ≡ first - p.0 = omega (arith, start_is) in
      let piece : more ≡ range p.1 (first - p.0) (last - first) =
      is ∙ sym (range_front part len (first - start) (last - first) (omega arith) long)
      ∙ ap (λ (xs : List ℕ). range xs (first - start) (last - first)) whole ∙ ap (λ (k : ℕ). range p.1 k (last - first)) at in
      (λ i. put (read i) (first - addr) (piece i))
      ∙ sym (part_laid bytes p addr n first last (omega (arith, start_is, len_is)) inside (omega (arith, first_is, start_is)) (omega (arith, last_is, start_is, len_is)) meets)

-- one more part
pub more_applied : (log : List Part) (pos : ℕ) (d : List ℕ) → pos < length log → applied (take (suc pos) log) d ≡ put (applied (take pos log) d) (part_at log pos).0 (part_at log pos).1
more_applied [] pos d lt = absurd (omega (arith, lt))
more_applied (p ∷ ps) zero d lt = refl
more_applied (p ∷ ps) (suc pos) d lt = more_applied ps pos (put d p.0 p.1) (omega (arith, lt))

-- the data with some parts is as long
pub long_applied : (shape : Shape) (log : List Part) (pos : ℕ) (d : List ℕ) → AllPlaced shape log → length d ≡ data_len shape → length (applied (take pos log) d) ≡ data_len shape
long_applied shape log pos d placed long =
    length-applied (take pos log) d (fit-take (length d) pos log (subst (λ (n : ℕ). AllFit n log) (sym long) (all_fit shape log placed))) ∙ long

pub length-ranges : (log : List Part) → length (ranges_of log) ≡ length log
length-ranges [] = refl
length-ranges (p ∷ ps) = ap suc (length-ranges ps)
