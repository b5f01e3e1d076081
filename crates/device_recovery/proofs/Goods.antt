-- What the check of the rows comes to: each decided row is good, or the named one is the first that is not.
use Rattle.std.proofs.Common.{◌≡◌, ℕ, zero, suc, ◌+◌, ◌<◌, ◌≤◌, ◌⊎◌, Bool, true, false, not, inl, inr, ⊎_elim, List, [], ◌∷◌, ◌++◌, refl, sym, subst, arith}
use Rattle.std.specs.Prelude.{Some, None}
use Rattle.std.proofs.lemmas.Bool.{cases_eq}
use Rattle.mars_base.specs.Check.{Check, test, unless, each, IsSingle}
use Rattle.mars_base.proofs.Checks.{test_single, unless_single, each_single}
use Rattle.array_shape.specs.declared.shape.Shape.{Shape}
use Rattle.array_image.specs.Joined.{joined}
use Rattle.array_image.specs.Decided.{decided}
use Rattle.array_image.specs.Standing.{IsGoodRow}
use Rattle.device_recovery.specs.Recovered.{rows_good}

-- each decided row of the numbers below n is good
abbrev pub AllGood : Shape → List ℕ → ℕ → Type 0
AllGood shape image n = (g t : ℕ) → g < shape.loggers → t < n → decided shape image g t ≡ true → IsGoodRow shape image g t

-- the row of number t at logger g is decided and not good, and each decided row before it is good
pub record IsFirstBad (shape : Shape) (image : List ℕ) (g t : ℕ) : Type 0 where
  pub logger : g < shape.loggers
  pub number : t < shape.numbers
  pub is_decided : decided shape image g t ≡ true
  pub bad : IsGoodRow shape image g t → ⊥
  pub below : (h : ℕ) → h < g → decided shape image h t ≡ true → IsGoodRow shape image h t
  pub before : AllGood shape image t

module _ {A Bad : Type 0} (check : A → Check Bad) where
  each_both : (xs ys : List A) → each check xs None → each check ys None → each check (xs ++ ys) None
  each_both [] ys p q = q
  each_both (x ∷ xs) ys p q = (p.0, each_both xs ys p.1 q)

  each_split : (xs ys : List A) → each check (xs ++ ys) None → each check xs None × each check ys None
  each_split [] ys p = (tt, p)
  each_split (x ∷ xs) ys p = let rest = each_split xs ys p.1 in ((p.0, rest.0), rest.1)

  each_left : (xs ys : List A) (bad : Bad) → each check xs (Some bad) → each check (xs ++ ys) (Some bad)
  each_left [] ys bad p = absurd p
  each_left (x ∷ xs) ys bad (inl here) = inl here
  each_left (x ∷ xs) ys bad (inr later) = inr (later.0, each_left xs ys bad later.1)

  each_right : (xs ys : List A) (bad : Bad) → each check xs None → each check ys (Some bad) → each check (xs ++ ys) (Some bad)
  each_right [] ys bad p q = q
  each_right (x ∷ xs) ys bad p q = inr (p.0, each_right xs ys bad p.1 q)

  each_either : (xs ys : List A) (bad : Bad) → each check (xs ++ ys) (Some bad) → each check xs (Some bad) ⊎ (each check xs None × each check ys (Some bad))
  each_either [] ys bad p = inr (tt, p)
  each_either (x ∷ xs) ys bad (inl here) = inl (inl here)
  each_either (x ∷ xs) ys bad (inr later) = ⊎_elim (λ left. inl (inr (later.0, left))) (λ right. inr ((later.0, right.0), right.1)) (each_either xs ys bad later.1)

  each_joined : (f : ℕ → List A) (k n : ℕ) → ((i : ℕ) → k ≤ i → i < k + n → each check (f i) None) → each check (joined f k n) None
  each_joined f k zero good = tt
  each_joined f k (suc n) good = each_both (f k) (joined f (k + 1) n) (good k (omega arith) (omega arith)) (each_joined f (k + 1) n (λ i le lt. good i (omega arith) (omega arith)))

  each_at : (f : ℕ → List A) (k n : ℕ) → each check (joined f k n) None → (i : ℕ) → k ≤ i → i < k + n → each check (f i) None
  each_at f k zero p i le lt = absurd (omega arith)
  each_at f k (suc n) p i le lt =
      let both = each_split (f k) (joined f (k + 1) n) p in
      ⊎_elim (λ is. subst (λ j. each check (f j) None) is both.0) (λ ne. each_at f (k + 1) n both.1 i (omega arith) (omega arith)) (cases_eq k i)

  each_first : (f : ℕ → List A) (k n i : ℕ) (bad : Bad) → k ≤ i → i < k + n → ((j : ℕ) → k ≤ j → j < i → each check (f j) None) → each check (f i) (Some bad) → each check (joined f k n) (Some bad)
  each_first f k zero i bad le lt before here = absurd (omega arith)
  each_first f k (suc n) i bad le lt before here = ⊎_elim
      (λ is. each_left (f k) (joined f (k + 1) n) bad (subst (λ j. each check (f j) (Some bad)) (sym is) here))
      (λ ne. each_right (f k) (joined f (k + 1) n) bad (before k (omega arith) (omega arith)) (each_first f (k + 1) n i bad (omega arith) (omega arith) (λ j le' lt'. before j (omega arith) lt') here))
      (cases_eq k i)

  -- the list in which the first bad one stands
  pub record Stands (f : ℕ → List A) (k n : ℕ) (bad : Bad) : Type 0 where
    pub at : ℕ
    pub from : k ≤ at
    pub to : at < k + n
    pub before : (j : ℕ) → k ≤ j → j < at → each check (f j) None
    pub here : each check (f at) (Some bad)

  each_found : (f : ℕ → List A) (k n : ℕ) (bad : Bad) → each check (joined f k n) (Some bad) → Stands f k n bad
  each_found f k zero bad p = absurd p
  each_found f k (suc n) bad p = ⊎_elim
      (λ left. record { at = k; from = omega arith; to = omega arith; before = λ j le lt. absurd (omega arith); here = left })
      (λ right.
      let rest = each_found f (k + 1) n bad right.1 in
      record {
        at = rest.at;
        from = omega (arith, rest.from);
        to = omega (arith, rest.to);
        before = λ j le lt. ⊎_elim (λ is. subst (λ i. each check (f i) None) is right.0) (λ ne. rest.before j (omega arith) lt) (cases_eq k j);
        here = rest.here;
      })
      (each_either (f k) (joined f (k + 1) n) bad p)

module _ (Holds : Type 0) {Bad : Type 0} (told : Bad) where
  kept : (b : Bool) → (b ≡ true → Holds) → unless (not b) (test Holds told) None
  kept true good = good refl
  kept false good = tt

  kept_holds : (b : Bool) → unless (not b) (test Holds told) None → b ≡ true → Holds
  kept_holds true p so = p
  kept_holds false p so = absurd (cc)

  broken : (b : Bool) → b ≡ true → (Holds → ⊥) → unless (not b) (test Holds told) (Some told)
  broken true so bad = (bad, refl)
  broken false so bad = absurd (cc)

  broken_is : (b : Bool) (bad : Bad) → unless (not b) (test Holds told) (Some bad) → (b ≡ true) × (Holds → ⊥) × (bad ≡ told)
  broken_is true bad p = (refl, p.0, p.1)
  broken_is false bad p = absurd p

module _ (shape : Shape) (image : List ℕ) where
  abbrev check : ℕ × ℕ → Check (ℕ × ℕ)
  check r = unless (not (decided shape image r.0 r.1)) (test (IsGoodRow shape image r.0 r.1) r)

  abbrev row : ℕ → ℕ → List (ℕ × ℕ)
  row t g = (g, t) ∷ []

  abbrev number : ℕ → List (ℕ × ℕ)
  number t = joined (row t) 0 shape.loggers

  row_is_good : (g t : ℕ) → (decided shape image g t ≡ true → IsGoodRow shape image g t) → each check (row t g) None
  row_is_good g t good = (kept (IsGoodRow shape image g t) (g, t) (decided shape image g t) good, tt)

  pub good_rows : AllGood shape image shape.numbers → rows_good shape image None
  good_rows good = each_joined check number 0 shape.numbers (λ t le lt. each_joined check (row t) 0 shape.loggers (λ g le' lt'. row_is_good g t (good g t (omega arith) (omega arith))))

  pub all_good : rows_good shape image None → AllGood shape image shape.numbers
  all_good good g t lt lt' =
      let here = each_at check (row t) 0 shape.loggers (each_at check number 0 shape.numbers good t (omega arith) (omega arith)) g (omega arith) (omega arith) in
      kept_holds (IsGoodRow shape image g t) (g, t) (decided shape image g t) here.0

  pub first_bad : (g t : ℕ) → IsFirstBad shape image g t → rows_good shape image (Some (g, t))
  first_bad g t first =
      each_first check number 0 shape.numbers t (g, t) (omega arith) (omega (arith, first.number))
      (λ u le lt. each_joined check (row u) 0 shape.loggers (λ h le' lt'. row_is_good h u (first.before h u (omega arith) (omega arith))))
      (each_first check (row t) 0 shape.loggers g (g, t) (omega arith) (omega (arith, first.logger))
      (λ h le lt. row_is_good h t (first.below h lt))
      (inl (broken (IsGoodRow shape image g t) (g, t) (decided shape image g t) first.is_decided first.bad)))

  pub is_first_bad : (g t : ℕ) → rows_good shape image (Some (g, t)) → IsFirstBad shape image g t
  is_first_bad g t bad =
      let of = each_found check number 0 shape.numbers (g, t) bad in
      let at = each_found check (row of.at) 0 shape.loggers (g, t) of.here in
      first of at (⊎_elim (λ here. broken_is (IsGoodRow shape image at.at of.at) (at.at, of.at) (decided shape image at.at of.at) (g, t) here) (λ none. absurd none.1) at.here)
    where
      first : (of : Stands check number 0 shape.numbers (g, t)) (at : Stands check (row of.at) 0 shape.loggers (g, t)) → (decided shape image at.at of.at ≡ true) × (IsGoodRow shape image at.at of.at → ⊥) × (◌≡◌ {A = ℕ × ℕ} (g, t) (at.at, of.at)) → IsFirstBad shape image g t
      first of at found =
          let found_here : IsFirstBad shape image at.at of.at = record {
            logger = omega (arith, at.to);
            number = omega (arith, of.to);
            is_decided = found.0;
            bad = found.1;
            below = λ h lt. kept_holds (IsGoodRow shape image h of.at) (h, of.at) (decided shape image h of.at) (at.before h (omega arith) lt).0;
            before = λ h u lt lt'. kept_holds (IsGoodRow shape image h u) (h, u) (decided shape image h u) (each_at check (row u) 0 shape.loggers (of.before u (omega arith) lt') h (omega arith) (omega arith)).0;
          } in
          subst (λ (r : ℕ × ℕ). IsFirstBad shape image r.0 r.1) (sym found.2) found_here

  -- at most one verdict is true
  pub rows_single : IsSingle (rows_good shape image)
  rows_single = each_single check (joined number 0 shape.numbers) (λ r. unless_single (not (decided shape image r.0 r.1)) _ (test_single (IsGoodRow shape image r.0 r.1) r))

  pub rows_exclude : (r : ℕ × ℕ) → rows_good shape image None → rows_good shape image (Some r) → ⊥
  rows_exclude r good bad = let same = rows_single None (Some r) good bad in absurd (cc)
