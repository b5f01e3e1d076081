-- Sets of numbers, number by number.
use Rattle.std.proofs.Common.{◌≡◌, ℕ, zero, suc, ◌≢◌, ◌+◌, ◌-◌, ◌/◌, ◌%◌, ◌^◌, ◌<◌, ◌≤◌, inl, inr, Bool, true, false, cond, ◌&&◌, nat_eq, List, [], ◌∷◌, length, refl, sym, ◌∙◌, ap, arith, w64}
use Rattle.std.specs.Prelude.{filter, nat_lt}
use Rattle.std.proofs.lemmas.Bool.{cases_lt, cases_eq, eqb-false, eq-eqb, ne_eqb, lt-ltb, le-ltb}
use Rattle.std.specs.Int.{bit_at, trailing_zeros}
use Rattle.std.proofs.lemmas.Nat.{shr-shr, shr_le}
use Rattle.std.proofs.lemmas.Nat.Bits.{bit_at-zero, bit_at-suc, bit_at-lt, bit_at_above, bit_at-trailing_zeros, same_from_bits}
use Rattle.array_shape.specs.NumberSet.{has, numbers_from, numbers_in}

module _ (bits t : ℕ) (lt : t < 64) where
  one_more : 64 - t ≡ suc (64 - (t + 1))
  one_more = omega arith

  step : (b : Bool) → has bits t ≡ b → numbers_from bits t (64 - t) ≡ cond b (t ∷ numbers_from bits (t + 1) (64 - (t + 1))) (numbers_from bits (t + 1) (64 - (t + 1)))
  unfolding numbers_from
  step b is = ap (numbers_from bits t) one_more ∙ ap (λ (c : Bool). cond c (t ∷ numbers_from bits (t + 1) (64 - (t + 1))) (numbers_from bits (t + 1) (64 - (t + 1)))) is

  -- the first of those from t on is t if it is in the set
  pub from_here : has bits t ≡ true → numbers_from bits t (64 - t) ≡ t ∷ numbers_from bits (t + 1) (64 - (t + 1))
  from_here is = step true is

  pub from_next : has bits t ≡ false → numbers_from bits t (64 - t) ≡ numbers_from bits (t + 1) (64 - (t + 1))
  from_next is = step false is

-- there is none from 64 on
pub from_end : (bits : ℕ) → numbers_from bits 64 (64 - 64) ≡ []
unfolding numbers_from
from_end bits = refl

-- none of those from one number up to another is in it
pub from_past : (bits t k : ℕ) → t + k ≤ 64 → ((u : ℕ) → t ≤ u → u < t + k → has bits u ≡ false) → numbers_from bits t (64 - t) ≡ numbers_from bits (t + k) (64 - (t + k))
from_past bits t zero le none = ap (λ (s : ℕ). numbers_from bits s (64 - s)) (let same : t ≡ t + 0 = omega arith in same)
from_past bits t (suc k) le none =
    from_next bits t (omega arith) (none t (omega arith) (omega arith))
    ∙ from_past bits (t + 1) k (omega arith) (λ u past below. none u (omega arith) (omega arith))
    ∙ ap (λ (s : ℕ). numbers_from bits s (64 - s)) (let same : t + 1 + k ≡ t + suc k = omega arith in same)

-- bits from one place on
module _ (bits from : ℕ) where
  above : (i : ℕ) → bit_at (bits / 2 ^ from) i ≡ bit_at bits (from + i)
  above i = ap (λ (n : ℕ). n % 2) (shr-shr bits from i)

  above_at : (u : ℕ) → from ≤ u → bit_at (bits / 2 ^ from) (u - from) ≡ bit_at bits u
  above_at u le = above (u - from) ∙ ap (bit_at bits) (let same : from + (u - from) ≡ u = omega arith in same)

  -- none of them is set
  pub from_none : from ≤ 64 → bits / 2 ^ from ≡ 0 → numbers_from bits from (64 - from) ≡ []
  from_none le rest =
      let k = 64 - from in
      from_past bits from k (omega arith) (λ u past below. ne_eqb (bit_at bits u) 1 (λ one. omega (arith, one, above_at u past, ap (λ (n : ℕ). bit_at n (u - from)) rest, bit_at-zero (u - from))))
      ∙ ap (λ (s : ℕ). numbers_from bits s (64 - s)) (let same : from + k ≡ 64 = omega arith in same)
      ∙ from_end bits

  -- or the lowest is that of the first that is set
  module _ (small : bits < 2 ^ 64) (some : 0 < bits / 2 ^ from) where
    lowest : (trailing_zeros w64 (bits / 2 ^ from) < 64) × (bit_at (bits / 2 ^ from) (trailing_zeros w64 (bits / 2 ^ from)) ≡ 1) × ((i : ℕ) → i < trailing_zeros w64 (bits / 2 ^ from) → bit_at (bits / 2 ^ from) i ≡ 0)
    lowest = bit_at-trailing_zeros w64 (bits / 2 ^ from) some (omega (arith, small, shr_le bits from))

    abbrev pub first_at : ℕ
    first_at = from + trailing_zeros w64 (bits / 2 ^ from)

    first_set : bit_at bits first_at ≡ 1
    first_set = sym (above (trailing_zeros w64 (bits / 2 ^ from))) ∙ lowest.1

    pub first_below : first_at < 64
    first_below = elim (cases_lt first_at 64) [
      | inl lt ↦ lt
      | inr le ↦ absurd (omega (arith, first_set, bit_at_above bits 64 first_at small le))
    ]

    pub from_first : numbers_from bits from (64 - from) ≡ first_at ∷ numbers_from bits (first_at + 1) (64 - (first_at + 1))
    from_first =
        from_past bits from (trailing_zeros w64 (bits / 2 ^ from)) (omega (arith, first_below)) (λ u past below. ne_eqb (bit_at bits u) 1 (λ one. omega (arith, one, above_at u past, lowest.2 (u - from) (omega arith))))
        ∙ from_here bits first_at first_below (eq-eqb (bit_at bits first_at) 1 first_set)

-- `tid` is the next one of a set from one number on, and `rest` are those behind it
pub record IsNext (bits from tid : ℕ) (rest : List ℕ) : Type 0 where
  pub reached : from ≤ tid
  pub below : tid < 64
  pub here : has bits tid ≡ true
  pub none : (u : ℕ) → from ≤ u → u < tid → has bits u ≡ false
  pub rest_is : rest ≡ numbers_from bits (tid + 1) (64 - (tid + 1))

module _ (bits : ℕ) where
  first : ℕ → List ℕ → ℕ
  first other [] = other
  first other (t ∷ ts) = t

  behind : List ℕ → List ℕ
  behind [] = []
  behind (t ∷ ts) = ts

  past_one : (from n : ℕ) → from + suc n ≡ 64 → ((left : List ℕ) (tid : ℕ) (rest : List ℕ) → left ≡ numbers_from bits (from + 1) n → left ≡ tid ∷ rest → IsNext bits (from + 1) tid rest)
      → (in_it : Bool) → has bits from ≡ in_it → (left : List ℕ) (tid : ℕ) (rest : List ℕ) → left ≡ cond in_it (from ∷ numbers_from bits (from + 1) n) (numbers_from bits (from + 1) n) → left ≡ tid ∷ rest → IsNext bits from tid rest
  unfolding first behind
  past_one from n sum later true is left tid rest left_is next =
      let same : tid ≡ from = ap (first 0) (sym next ∙ left_is) in
      record {
        reached = omega (arith, same);
        below = omega (arith, same);
        here = ap (has bits) same ∙ is;
        none = λ u le lt. absurd (omega (arith, same));
        rest_is = ap behind (sym next ∙ left_is) ∙ (λ i. numbers_from bits (sym same i + 1) n) ∙ ap (numbers_from bits (tid + 1)) (let few : n ≡ 64 - (tid + 1) = omega (arith, same) in few);
      }
  past_one from n sum later false is left tid rest left_is next =
      let it = later left tid rest left_is next in
      record {
        reached = omega (arith, it.reached);
        below = it.below;
        here = it.here;
        none = λ u le lt. elim (cases_eq u from) [
          | inl at ↦ ap (has bits) at ∙ is
          | inr ne ↦ it.none u (omega arith) lt
        ];
        rest_is = it.rest_is;
      }

  next_by : (n from : ℕ) → from + n ≡ 64 → (left : List ℕ) (tid : ℕ) (rest : List ℕ) → left ≡ numbers_from bits from n → left ≡ tid ∷ rest → IsNext bits from tid rest
  unfolding numbers_from
  next_by zero from sum left tid rest left_is next = absurd (omega (arith, ap length (sym next ∙ left_is)))
  next_by (suc n) from sum left tid rest left_is next = past_one from n sum (next_by n (from + 1) (omega arith)) (has bits from) refl left tid rest left_is next

  -- the head of what is left of a set
  pub next_left : (from : ℕ) → from ≤ 64 → (left : List ℕ) (tid : ℕ) (rest : List ℕ) → left ≡ numbers_from bits from (64 - from) → left ≡ tid ∷ rest → IsNext bits from tid rest
  next_left from le = next_by (64 - from) from (omega arith)

  stops : (from n : ℕ) → ((u : ℕ) → from + 1 ≤ u → u < from + suc n → numbers_from bits (from + 1) n ≡ [] → has bits u ≡ false)
      → (in_it : Bool) → has bits from ≡ in_it → cond in_it (from ∷ numbers_from bits (from + 1) n) (numbers_from bits (from + 1) n) ≡ [] → (u : ℕ) → from ≤ u → u < from + suc n → has bits u ≡ false
  stops from n later true is none u le lt = absurd (omega (arith, ap length none))
  stops from n later false is none u le lt = elim (cases_eq u from) [
    | inl at ↦ ap (has bits) at ∙ is
    | inr ne ↦ later u (omega arith) lt none
  ]

  none_by : (n from : ℕ) → numbers_from bits from n ≡ [] → (u : ℕ) → from ≤ u → u < from + n → has bits u ≡ false
  unfolding numbers_from
  none_by zero from none u le lt = absurd (omega arith)
  none_by (suc n) from none u le lt = stops from n (λ v past below rest. none_by n (from + 1) rest v past (omega arith)) (has bits from) refl none u le lt

  -- none is left of it
  pub none_left : (from : ℕ) → from ≤ 64 → (left : List ℕ) → left ≡ numbers_from bits from (64 - from) → left ≡ [] → (u : ℕ) → from ≤ u → u < 64 → has bits u ≡ false
  none_left from le left left_is none u past below = none_by (64 - from) from (sym left_is ∙ none) u past (omega arith)

-- the set of those that pass a test
module _ (a bits : ℕ) (p : ℕ → Bool) (same : (t : ℕ) → t < 64 → has a t ≡ (has bits t && p t)) where
  kept : (t : ℕ) (in_it passes : Bool) (rest : List ℕ) → p t ≡ passes → cond (in_it && passes) (t ∷ filter p rest) (filter p rest) ≡ filter p (cond in_it (t ∷ rest) rest)
  kept t true true rest is = ap (λ (b : Bool). cond b (t ∷ filter p rest) (filter p rest)) (sym is)
  kept t true false rest is = ap (λ (b : Bool). cond b (t ∷ filter p rest) (filter p rest)) (sym is)
  kept t false passes rest is = refl

  passing_from : (t n : ℕ) → t + n ≤ 64 → numbers_from a t n ≡ filter p (numbers_from bits t n)
  unfolding numbers_from
  passing_from t zero le = refl
  passing_from t (suc n) le =
      (λ i. cond (same t (omega arith) i) (t ∷ passing_from (t + 1) n (omega arith) i) (passing_from (t + 1) n (omega arith) i))
      ∙ kept t (has bits t) (p t) (numbers_from bits (t + 1) n) refl

  pub passing : numbers_in a ≡ filter p (numbers_in bits)
  passing = passing_from 0 64 (omega arith)

-- the set of no bits has no number
none_from : (t n : ℕ) → numbers_from 0 t n ≡ []
unfolding numbers_from
none_from t zero = refl
none_from t (suc n) =
    ap (λ (b : Bool). cond b (t ∷ numbers_from 0 (t + 1) n) (numbers_from 0 (t + 1) n)) (ap (λ (b : ℕ). nat_eq b 1) (bit_at-zero t)) ∙ none_from (t + 1) n

pub none_in : numbers_in 0 ≡ []
none_in = none_from 0 64

pub none_has : (t : ℕ) → has 0 t ≡ false
none_has t = ap (λ (b : ℕ). nat_eq b 1) (bit_at-zero t)

-- a set that has those numbers of another that pass a test, below n
module _ (tids : ℕ) (some : ℕ → Bool) where
  abbrev pub IsPassedBelow : ℕ → ℕ → Type 0
  IsPassedBelow n bits = (u : ℕ) → has bits u ≡ (nat_lt u n && (has tids u && some u))

  pub passed_first : (bits : ℕ) → ((u : ℕ) → has bits u ≡ false) → IsPassedBelow 0 bits
  passed_first bits none u = none u ∙ sym (ap (λ (b : Bool). b && (has tids u && some u)) (le-ltb u 0 (omega arith)))

  later : (n u : ℕ) → u ≢ n → nat_lt u (n + 1) ≡ nat_lt u n
  later n u ne = elim (cases_lt u n) [
    | inl lt ↦ lt-ltb u (n + 1) (omega arith) ∙ sym (lt-ltb u n lt)
    | inr le ↦ le-ltb u (n + 1) (omega arith) ∙ sym (le-ltb u n (omega arith))
  ]

  pub passed_with : (n bits new : ℕ) → IsPassedBelow n bits → (has tids n && some n) ≡ true → has new n ≡ true → ((u : ℕ) → u ≢ n → has new u ≡ has bits u) → IsPassedBelow (n + 1) new
  passed_with n bits new before so here others u = elim (cases_eq u n) [
    | inl is ↦ ap (has new) is ∙ here ∙ sym ((λ i. lt-ltb u (n + 1) (omega arith) i && (has tids (is i) && some (is i))) ∙ so)
    | inr ne ↦ others u ne ∙ before u ∙ sym (ap (λ (b : Bool). b && (has tids u && some u)) (later n u ne))
  ]

  pub passed_skip : (n bits : ℕ) → IsPassedBelow n bits → (has tids n && some n) ≡ false → IsPassedBelow (n + 1) bits
  passed_skip n bits before not_so u = elim (cases_eq u n) [
    | inl is ↦ before u ∙ ap (λ (b : Bool). b && (has tids u && some u)) (le-ltb u n (omega arith)) ∙ sym ((λ i. lt-ltb u (n + 1) (omega arith) i && (has tids (is i) && some (is i))) ∙ not_so)
    | inr ne ↦ before u ∙ sym (ap (λ (b : Bool). b && (has tids u && some u)) (later n u ne))
  ]

  pub passed_last : (n bits : ℕ) → IsPassedBelow n bits → ((u : ℕ) → n ≤ u → some u ≡ false) → numbers_in bits ≡ filter some (numbers_in tids)
  passed_last n bits is past = passing bits tids some (λ u small. elim (cases_lt u n) [
    | inl lt ↦ is u ∙ ap (λ (b : Bool). b && (has tids u && some u)) (lt-ltb u n lt)
    | inr le ↦ is u ∙ ap (λ (b : Bool). b && (has tids u && some u)) (le-ltb u n (omega arith)) ∙ sym (ap (λ (b : Bool). has tids u && b) (past u (omega arith)) ∙ none (has tids u))
  ])
    where
      none : (b : Bool) → (b && false) ≡ false
      none true = refl
      none false = refl

  -- nor has it one from n on
  pub passed_past : (n bits : ℕ) → IsPassedBelow n bits → (u : ℕ) → n ≤ u → has bits u ≡ false
  passed_past n bits is u le = is u ∙ ap (λ (b : Bool). b && (has tids u && some u)) (le-ltb u n (omega arith))

  pub passed_at : (n bits : ℕ) → IsPassedBelow n bits → (u : ℕ) → u < n → has bits u ≡ (has tids u && some u)
  passed_at n bits is u lt = is u ∙ ap (λ (b : Bool). b && (has tids u && some u)) (lt-ltb u n lt)

-- a number that has no bit from k on is below 2 ^ k
pub small_from_bits : (k n : ℕ) → ((i : ℕ) → k ≤ i → has n i ≡ false) → n < 2 ^ k
small_from_bits k n none = by k n (λ i le. let off = eqb-false (bit_at n i) 1 (none i le) in omega (arith, bit_at-lt n i, off))
  where
    by : (k n : ℕ) → ((i : ℕ) → k ≤ i → bit_at n i ≡ 0) → n < 2 ^ k
    by zero n none = let is : n ≡ 0 = same_from_bits n 0 (λ i. none i (omega arith) ∙ sym (bit_at-zero i)) in omega (arith, is)
    by (suc k) n none =
        let half : n / 2 < 2 ^ k = by k (n / 2) (λ i le. sym (bit_at-suc n i) ∙ none (suc i) (omega arith)) in
        omega (arith, half)
