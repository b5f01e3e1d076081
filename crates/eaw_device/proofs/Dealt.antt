-- What is dealt to numbers: how much of a list each has.
use Rattle.std.proofs.Common.{◌≡◌, ℕ, zero, suc, ◌+◌, ◌*◌, ◌<◌, ◌≤◌, Bool, true, false, cond, nat_eq, inl, inr, List, [], ◌∷◌, length, refl, sym, ◌∙◌, ap, arith}
use Rattle.std.specs.Prelude.{filter, nat_lt}
use Rattle.std.proofs.lemmas.Bool.{cases_eq, cases_lt, eq-eqb, ne_eqb, lt-ltb, le-ltb}

below_one : (k : ℕ) (l : ℕ) → cond (nat_lt l (k + 1)) 1 0 ≡ cond (nat_lt l k) 1 0 + cond (nat_eq l k) 1 0
below_one k l = elim (cases_eq l k) [
  | inl is ↦ (λ i. cond (lt-ltb l (k + 1) (omega arith) i) 1 0) ∙ sym (λ i. cond (le-ltb l k (omega arith) i) 1 0 + cond (eq-eqb l k is i) 1 0)
  | inr ne ↦ elim (cases_lt l k) [
    | inl lt ↦ (λ i. cond (lt-ltb l (k + 1) (omega arith) i) 1 0) ∙ sym (λ i. cond (lt-ltb l k lt i) 1 0 + cond (ne_eqb l k ne i) 1 0)
    | inr le ↦ (λ i. cond (le-ltb l (k + 1) (omega arith) i) 1 0) ∙ sym (λ i. cond (le-ltb l k le i) 1 0 + cond (ne_eqb l k ne i) 1 0)
  ]
]

at_most_one : (has : Bool) → cond has 1 0 ≤ 1
at_most_one true = omega arith
at_most_one false = omega arith

module _ {A : Type 0} (dealt : A → ℕ) where
  -- what one number has
  abbrev pub on : ℕ → List A → ℕ
  on k xs = length (filter (λ x. nat_eq (dealt x) k) xs)

  -- what all numbers below one have
  pub below : ℕ → List A → ℕ
  below k [] = 0
  below k (x ∷ xs) = cond (nat_lt (dealt x) k) 1 0 + below k xs

  on_one : (k : ℕ) (x : A) (xs : List A) → on k (x ∷ xs) ≡ cond (nat_eq (dealt x) k) 1 0 + on k xs
  on_one k x xs = one (nat_eq (dealt x) k)
    where
      one : (has : Bool) → length (cond has (x ∷ filter (λ y. nat_eq (dealt y) k) xs) (filter (λ y. nat_eq (dealt y) k) xs)) ≡ cond has 1 0 + on k xs
      one true = omega arith
      one false = omega arith

  pub below_more : (k : ℕ) (xs : List A) → below (k + 1) xs ≡ below k xs + on k xs
  unfolding below
  below_more k [] = omega arith
  below_more k (x ∷ xs) = omega (arith, below_one k (dealt x), on_one k x xs, below_more k xs)

  pub below_none : (xs : List A) → below 0 xs ≡ 0
  unfolding below
  below_none [] = refl
  below_none (x ∷ xs) = (λ i. cond (le-ltb (dealt x) 0 (omega arith) i) 1 0 + below_none xs i) ∙ omega arith

  pub below_few : (xs : List A) (most k : ℕ) → ((n : ℕ) → n < k → on n xs ≤ most) → below k xs ≤ k * most
  below_few xs most zero few = omega (arith, below_none xs)
  below_few xs most (suc k) few =
      let one : suc k ≡ k + 1 = omega arith in
      omega (arith, ap (λ (n : ℕ). below n xs) one, below_more k xs, below_few xs most k (λ n lt. few n (omega arith)), few k (omega arith))

  pub below_all : (xs : List A) (k : ℕ) → ((x : A) → dealt x < k) → below k xs ≡ length xs
  unfolding below
  below_all [] k all = refl
  below_all (x ∷ xs) k all = (λ i. cond (lt-ltb (dealt x) k (all x) i) 1 0 + below_all xs k all i) ∙ omega arith

  pub below_le : (xs : List A) (k : ℕ) → below k xs ≤ length xs
  unfolding below
  below_le [] k = omega arith
  below_le (x ∷ xs) k = let rest = below_le xs k in omega (arith, at_most_one (nat_lt (dealt x) k), rest)
