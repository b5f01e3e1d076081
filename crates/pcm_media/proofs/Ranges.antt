-- Parts of an image that was changed elsewhere.
use Rattle.std.proofs.Common.{◌≡◌, ℕ, ◌+◌, ◌-◌, ◌<◌, ◌≤◌, inl, inr, List, length, get_or, drop, sym, ◌∙◌, ap, arith}
use Rattle.std.proofs.lemmas.List.{get_or-drop, get_or-take, length-take, length-take-le, length-drop, ext_get_or}
use Rattle.std.proofs.lemmas.Bool.{cases_lt}
use Rattle.mars_base.specs.Bytes.{put}
use Rattle.pcm_media.specs.Images.{SameOutside, IsOutside}
use Rattle.mars_base.proofs.Puts.{length-put, get_or-put_before, get_or-put_after, get_or-put_inside}
use Rattle.mars_base.specs.Bytes.{range}

pub length-range : (bytes : List ℕ) (at n : ℕ) → at + n ≤ length bytes → length (range bytes at n) ≡ n
length-range bytes at n fits = length-take-le n (drop at bytes) (omega (arith, length-drop at bytes))

pub get_or-range : (bytes : List ℕ) (at n i : ℕ) → i < n → get_or (range bytes at n) i 0 ≡ get_or bytes (at + i) 0
get_or-range bytes at n i lt = get_or-take n (drop at bytes) i 0 lt ∙ get_or-drop at bytes i 0

pub range_same : (xs ys : List ℕ) (at n : ℕ) → length xs ≡ length ys → ((i : ℕ) → at ≤ i → i < at + n → get_or xs i 0 ≡ get_or ys i 0) → range xs at n ≡ range ys at n
range_same xs ys at n long same = ext_get_or 0 (range xs at n) (range ys at n)
    (omega (arith, length-take n (drop at xs), length-take n (drop at ys), length-drop at xs, length-drop at ys))
    (λ i lt. let small : i < n = omega (arith, length-take n (drop at xs)) in
    get_or-range xs at n i small ∙ same (at + i) (omega arith) (omega arith) ∙ sym (get_or-range ys at n i small))

-- outside the ranges
pub range_away : (ranges : List (ℕ × ℕ)) (old new : List ℕ) (at n : ℕ) → SameOutside ranges old new → ((i : ℕ) → at ≤ i → i < at + n → IsOutside ranges i) → range new at n ≡ range old at n
range_away ranges old new at n same away = range_same new old at n same.long (λ i le lt. same.same i (away i le lt))

-- the bytes from a place on
pub end_away : (ranges : List (ℕ × ℕ)) (old new : List ℕ) (base : ℕ) → SameOutside ranges old new → ((i : ℕ) → base ≤ i → IsOutside ranges i) → drop base new ≡ drop base old
end_away ranges old new base same away = ext_get_or 0 (drop base new) (drop base old) (omega (arith, same.long, length-drop base new, length-drop base old))
    (λ i lt. get_or-drop base new i 0 ∙ same.same (base + i) (away (base + i) (omega arith)) ∙ sym (get_or-drop base old i 0))

-- a write into the bytes from a place on
pub end-put : (bytes : List ℕ) (base at : ℕ) (more : List ℕ) → base + at + length more ≤ length bytes → drop base (put bytes (base + at) more) ≡ put (drop base bytes) at more
end-put bytes base at more fits =
    let long : length (drop base bytes) ≡ length bytes - base = length-drop base bytes in
    let inner : at + length more ≤ length (drop base bytes) = omega arith in
    ext_get_or 0 (drop base (put bytes (base + at) more)) (put (drop base bytes) at more)
    (omega (arith, length-drop base (put bytes (base + at) more), length-put bytes (base + at) more fits, length-put (drop base bytes) at more inner))
    (λ i lt. get_or-drop base (put bytes (base + at) more) i 0 ∙ elim (cases_lt i at) [
      | inl before ↦ get_or-put_before bytes (base + at) more fits (base + i) (omega arith) ∙ sym (get_or-put_before (drop base bytes) at more inner i before ∙ get_or-drop base bytes i 0)
      | inr from ↦ elim (cases_lt i (at + length more)) [
        | inl inside ↦ get_or-put_inside bytes (base + at) more fits (base + i) (omega arith) (omega arith) ∙ ap (λ (k : ℕ). get_or more k 0) (omega arith) ∙ sym (get_or-put_inside (drop base bytes) at more inner i from inside)
        | inr after ↦ get_or-put_after bytes (base + at) more fits (base + i) (omega arith) ∙ sym (get_or-put_after (drop base bytes) at more inner i after ∙ get_or-drop base bytes i 0)
      ]
    ])

-- what was written is read
pub range-put : (old bytes : List ℕ) (at n : ℕ) → n ≡ length bytes → at + length bytes ≤ length old → range (put old at bytes) at n ≡ bytes
range-put old bytes at n is fits =
    let long = length-put old at bytes fits in
    let size : length (range (put old at bytes) at n) ≡ n = length-range (put old at bytes) at n (omega arith) in
    ext_get_or 0 (range (put old at bytes) at n) bytes (omega arith)
    (λ i lt. get_or-range (put old at bytes) at n i (omega arith) ∙ get_or-put_inside old at bytes fits (at + i) (omega arith) (omega arith)
    ∙ ap (λ (j : ℕ). get_or bytes j 0) (omega arith))
