-- The rows in their order: row n is that of number n / loggers at logger n % loggers.
use Rattle.std.proofs.Common.{◌≡◌, ℕ, zero, suc, ◌+◌, ◌*◌, ◌/◌, ◌%◌, ◌<◌, ◌≤◌, ⊎_elim, List, ◌++◌, refl, sym, ◌∙◌, ap, subst, append_assoc, arith}
use Rattle.std.proofs.lemmas.Bool.{cases_eq, cases_lt}
use Rattle.std.proofs.Math.Nat.{mul-le-mul_left}
use Rattle.std.proofs.lemmas.Nat.{div-mul-add, mod-mul-add, div-add-mod'}
use Rattle.mars_base.proofs.Costing.{rounds_below}
use Rattle.array_image.specs.Joined.{joined}

-- what holds of the rows before row n
abbrev pub Before : ℕ → (ℕ → ℕ → Type 0) → ℕ → Type 0
Before loggers P n = (g t : ℕ) → g < loggers → t * loggers + g < n → P g t

module _ (loggers : ℕ) where
  -- which row is row n
  pub row_of_place : (n g t : ℕ) → t * loggers + g ≡ n → g < loggers → (g ≡ n % loggers) × (t ≡ n / loggers)
  row_of_place n g t is lt = (sym (mod-mul-add t loggers g lt) ∙ ap (λ (k : ℕ). k % loggers) is, sym (div-mul-add t loggers g lt) ∙ ap (λ (k : ℕ). k / loggers) is)

  pub place_of_row : (n g t : ℕ) → g ≡ n % loggers → t ≡ n / loggers → t * loggers + g ≡ n
  place_of_row n g t is is' = (λ i. is' i * loggers + is i) ∙ div-add-mod' n loggers

  -- one row more
  pub before_more : (P : ℕ → ℕ → Type 0) (n g t : ℕ) → g ≡ n % loggers → t ≡ n / loggers → Before loggers P n → P g t → Before loggers P (n + 1)
  before_more P n g t is is' before here h u lt below = ⊎_elim
      (λ same.
      let one = row_of_place n h u same lt in
      subst (λ (k : ℕ). P h k) (is' ∙ sym one.1) (subst (λ (k : ℕ). P k t) (is ∙ sym one.0) here))
      (λ ne. before h u lt (omega arith))
      (cases_eq (u * loggers + h) n)

  -- all rows
  pub before_all : (P : ℕ → ℕ → Type 0) (n numbers : ℕ) → n ≡ loggers * numbers → Before loggers P n → (g t : ℕ) → g < loggers → t < numbers → P g t
  before_all P n numbers is before g t lt lt' = before g t lt (omega (arith, is, rounds_below loggers t numbers lt'))

  -- a row of a lower number stands before
  pub lower_number : (n g t h u : ℕ) → t * loggers + g ≡ n → h < loggers → u < t → u * loggers + h < n
  lower_number n g t h u is lt lt' = omega (arith, is, lt, rounds_below loggers u t lt')

  -- another row stands in another place
  pub other_place : (n g t h u : ℕ) → t * loggers + g ≡ n → u * loggers + h < n → h ≡ g → u ≡ t → ⊥
  other_place n g t h u is below same same' = let place = ap (λ (k : ℕ). k * loggers) same' in omega (arith, is, below, same, place)

  pub later_place : (n g t h u : ℕ) → t * loggers + g ≡ n → n + 1 ≤ u * loggers + h → h ≡ g → u ≡ t → ⊥
  later_place n g t h u is from same same' = let place = ap (λ (k : ℕ). k * loggers) same' in omega (arith, is, from, same, place)

  -- a row before row n is of one of the numbers
  pub number_below : (n g t numbers : ℕ) → t * loggers + g < n → n ≤ loggers * numbers → t < numbers
  number_below n g t numbers below le = ⊎_elim (λ lt. lt) (λ past. absurd (omega (arith, below, le, mul-le-mul_left {m = numbers} {n = t} loggers past))) (cases_lt t numbers)

module _ {A : Type 0} where
  joined_split : (f : ℕ → List A) (k n m : ℕ) → joined f k (n + m) ≡ joined f k n ++ joined f (k + n) m
  joined_split f k zero m = (λ i. joined f (here i) (none i))
    where
      here : k ≡ k + 0
      here = omega arith

      none : 0 + m ≡ m
      none = omega arith
  joined_split f k (suc n) m =
      ap (λ (j : ℕ). joined f k j) next
      ∙ ap (λ (l : List A). f k ++ l) (joined_split f (k + 1) n m ∙ ap (λ (j : ℕ). joined f (k + 1) n ++ joined f j m) there)
      ∙ sym (append_assoc (f k) (joined f (k + 1) n) (joined f (k + suc n) m))
    where
      next : suc n + m ≡ suc (n + m)
      next = omega arith

      there : k + 1 + n ≡ k + suc n
      there = omega arith

  joined_shift : (f h : ℕ → List A) (a b n : ℕ) → ((i : ℕ) → i < n → f (a + i) ≡ h (b + i)) → joined f a n ≡ joined h b n
  joined_shift f h a b zero same = refl
  joined_shift f h a b (suc n) same = (λ i. first i ++ joined_shift f h (a + 1) (b + 1) n (λ j lt. ap f (one a j) ∙ same (suc j) (omega arith) ∙ sym (ap h (one b j))) i)
    where
      first : f a ≡ h b
      first = ap f (let e : a ≡ a + 0 = omega arith in e) ∙ same 0 (omega arith) ∙ ap h (let e : b + 0 ≡ b = omega arith in e)

      one : (k j : ℕ) → k + 1 + j ≡ k + suc j
      one k j = omega arith

  -- the lists of the rows in order, joined, are those of one number after another
  pub joined_rows : (loggers numbers : ℕ) (f : ℕ → ℕ → List A) → joined (λ n. f (n % loggers) (n / loggers)) 0 (loggers * numbers) ≡ joined (λ t. joined (λ g. f g t) 0 loggers) 0 numbers
  joined_rows loggers numbers f = ap (λ (k : ℕ). joined (λ n. f (n % loggers) (n / loggers)) k (loggers * numbers)) none ∙ from 0 numbers
    where
      none : 0 ≡ loggers * 0
      none = omega arith

      at : (t g : ℕ) → g < loggers → f ((loggers * t + g) % loggers) ((loggers * t + g) / loggers) ≡ f g t
      at t g lt = let one = row_of_place loggers (loggers * t + g) g t (omega arith) lt in (λ i. f (sym one.0 i) (sym one.1 i))

      from : (t m : ℕ) → joined (λ n. f (n % loggers) (n / loggers)) (loggers * t) (loggers * m) ≡ joined (λ u. joined (λ g. f g u) 0 loggers) t m
      from t zero = ap (λ (k : ℕ). joined (λ n. f (n % loggers) (n / loggers)) (loggers * t) k) (let e : loggers * 0 ≡ 0 = omega arith in e)
      from t (suc m) =
          ap (λ (k : ℕ). joined (λ n. f (n % loggers) (n / loggers)) (loggers * t) k) (let e : loggers * suc m ≡ loggers + loggers * m = omega arith in e)
          ∙ joined_split (λ n. f (n % loggers) (n / loggers)) (loggers * t) loggers (loggers * m)
          ∙ (λ i. joined_shift (λ n. f (n % loggers) (n / loggers)) (λ g. f g t) (loggers * t) 0 loggers (λ g lt. at t g lt ∙ ap (λ (k : ℕ). f k t) (let e : g ≡ 0 + g = omega arith in e)) i
          ++ (ap (λ (k : ℕ). joined (λ n. f (n % loggers) (n / loggers)) k (loggers * m)) (let e : loggers * t + loggers ≡ loggers * (t + 1) = omega arith in e) ∙ from (t + 1) m) i)
