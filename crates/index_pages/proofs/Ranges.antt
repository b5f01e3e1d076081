-- What a write leaves of a range.
use Rattle.std.proofs.Common.{◌≡◌, ℕ, ◌+◌, ◌-◌, ◌<◌, ◌≤◌, ◌⊎◌, inl, inr, List, length, get_or, drop, sym, ◌∙◌, ap, arith}
use Rattle.std.proofs.lemmas.List.{get_or-drop, get_or-take, length-take, length-take-le, length-drop, ext_get_or}
use Rattle.mars_base.specs.Bytes.{put, range}
use Rattle.mars_base.proofs.Puts.{length-put, get_or-put_before, get_or-put_after, get_or-put_inside}

-- two ranges share no byte
abbrev pub Apart : ℕ → ℕ → ℕ → ℕ → Type 0
Apart a n b m = (a + n ≤ b) ⊎ (b + m ≤ a)

pub get_or-range : (bytes : List ℕ) (at n i : ℕ) → i < n → get_or (range bytes at n) i 0 ≡ get_or bytes (at + i) 0
get_or-range bytes at n i lt = get_or-take n (drop at bytes) i 0 lt ∙ get_or-drop at bytes i 0

range_same : (xs ys : List ℕ) (at n : ℕ) → length xs ≡ length ys → ((i : ℕ) → at ≤ i → i < at + n → get_or xs i 0 ≡ get_or ys i 0) → range xs at n ≡ range ys at n
range_same xs ys at n long same = ext_get_or 0 (range xs at n) (range ys at n)
    (omega (arith, length-take n (drop at xs), length-take n (drop at ys), length-drop at xs, length-drop at ys))
    (λ i lt. let small : i < n = omega (arith, length-take n (drop at xs)) in
    get_or-range xs at n i small ∙ same (at + i) (omega arith) (omega arith) ∙ sym (get_or-range ys at n i small))

-- a range apart from a write
pub range_away : (d : List ℕ) (a : ℕ) (b : List ℕ) (at n : ℕ) → a + length b ≤ length d → Apart at n a (length b) → range (put d a b) at n ≡ range d at n
range_away d a b at n fits (inl before) = range_same (put d a b) d at n (length-put d a b fits) (λ i le lt. get_or-put_before d a b fits i (omega arith))
range_away d a b at n fits (inr behind) = range_same (put d a b) d at n (length-put d a b fits) (λ i le lt. get_or-put_after d a b fits i (omega arith))

-- what was written is read
pub range_here : (d : List ℕ) (a : ℕ) (b : List ℕ) (n : ℕ) → n ≡ length b → a + length b ≤ length d → range (put d a b) a n ≡ b
range_here d a b n is fits =
    let long = length-put d a b fits in
    let size : length (range (put d a b) a n) ≡ n = length-take-le n (drop a (put d a b)) (omega (arith, length-drop a (put d a b))) in
    ext_get_or 0 (range (put d a b) a n) b (omega arith)
    (λ i lt. get_or-range (put d a b) a n i (omega arith) ∙ get_or-put_inside d a b fits (a + i) (omega arith) (omega arith) ∙ ap (λ (j : ℕ). get_or b j 0) (let e : a + i - a ≡ i = omega arith in e))
