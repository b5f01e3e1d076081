-- Joined lists.
use Rattle.std.proofs.Common.{◌≡◌, ◌≢◌, ℕ, zero, suc, ◌+◌, ◌-◌, ◌<◌, ◌≤◌, ⊎_elim, List, [], ◌++◌, refl, sym, ◌∙◌, ap, subst, append_assoc, append-nil, arith}
use Rattle.std.proofs.lemmas.Bool.{cases_eq}
use Rattle.pcm_media.specs.Images.{IsOutside}
use Rattle.pcm_media.proofs.Left.{outside-append, outside-both}
use Rattle.array_image.specs.Joined.{joined}

module _ {A : Type 0} (f : ℕ → List A) where
  pub joined_none : (k n : ℕ) → ((i : ℕ) → k ≤ i → i < k + n → f i ≡ []) → joined f k n ≡ []
  joined_none k zero none = refl
  joined_none k (suc n) none = ap (λ (l : List A). l ++ joined f (k + 1) n) (none k (omega arith) (omega arith)) ∙ joined_none (k + 1) n (λ i le lt. none i (omega arith) (omega arith))

  pub joined_same : (h : ℕ → List A) (k n : ℕ) → ((i : ℕ) → k ≤ i → i < k + n → f i ≡ h i) → joined f k n ≡ joined h k n
  joined_same h k zero same = refl
  joined_same h k (suc n) same = (λ j. same k (omega arith) (omega arith) j ++ joined_same h (k + 1) n (λ i le lt. same i (omega arith) (omega arith)) j)

  -- all but one are empty
  pub joined_one : (only k n : ℕ) → k ≤ only → only < k + n → ((i : ℕ) → k ≤ i → i < k + n → i ≢ only → f i ≡ []) → joined f k n ≡ f only
  joined_one only k zero le lt none = absurd (omega arith)
  joined_one only k (suc n) le lt none = ⊎_elim
      (λ is.
      ap (λ (l : List A). f k ++ l) (joined_none (k + 1) n (λ i le' lt'. none i (omega arith) (omega arith) (λ same. omega arith)))
      ∙ append-nil (f k) ∙ ap f is)
      (λ ne.
      ap (λ (l : List A). l ++ joined f (k + 1) n) (none k (omega arith) (omega arith) ne)
      ∙ joined_one only (k + 1) n (omega arith) (omega arith) (λ i le' lt' ne'. none i (omega arith) (omega arith) ne'))
      (cases_eq k only)

  -- one more at the end
  pub joined_more : (k n : ℕ) → joined f k (suc n) ≡ joined f k n ++ f (k + n)
  joined_more k zero = append-nil (f k) ∙ ap f (omega arith)
  joined_more k (suc n) =
      ap (λ (l : List A). f k ++ l) (joined_more (k + 1) n)
      ∙ sym (append_assoc (f k) (joined f (k + 1) n) (f (k + 1 + n)))
      ∙ ap (λ (i : ℕ). joined f k (suc n) ++ f i) (omega arith)

-- the first that may not be empty
pub joined_first : {A : Type 0} (f : ℕ → List A) (k n o : ℕ) → k ≤ o → o < k + n → ((i : ℕ) → k ≤ i → i < o → f i ≡ []) → joined f k n ≡ f o ++ joined f (o + 1) (k + n - (o + 1))
joined_first f k zero o le lt none = absurd (omega arith)
joined_first {A = A} f k (suc n) o le lt none = ⊎_elim
    (λ is. let rest : n ≡ k + suc n - (o + 1) = omega arith in (λ i. f (is i) ++ joined f (is i + 1) (rest i)))
    (λ ne.
    let rest : k + 1 + n - (o + 1) ≡ k + suc n - (o + 1) = omega arith in
    ap (λ (l : List A). l ++ joined f (k + 1) n) (none k (omega arith) (omega arith))
    ∙ joined_first f (k + 1) n o (omega arith) (omega arith) (λ i le' lt'. none i (omega arith) lt')
    ∙ ap (λ (m : ℕ). f o ++ joined f (o + 1) m) rest)
    (cases_eq k o)

-- one order number after another, over those at which there is nothing
pub joined_past : {A : Type 0} (f : ℕ → List A) (from n : ℕ) → ((i : ℕ) → from ≤ i → i < from + n → f i ≡ []) → joined f 0 (from + n) ≡ joined f 0 from
joined_past {A = A} f from zero none = ap (joined f 0) (omega arith)
joined_past {A = A} f from (suc n) none =
    let next : from + suc n ≡ suc (from + n) = omega arith in
    ap (joined f 0) next ∙ joined_more f 0 (from + n)
    ∙ ap (λ (l : List A). joined f 0 (from + n) ++ l) (none (0 + (from + n)) (omega arith) (omega arith))
    ∙ append-nil (joined f 0 (from + n)) ∙ joined_past f from n (λ i le lt. none i le (omega arith))

pub joined_next : {A : Type 0} (f : ℕ → List A) (from o : ℕ) → from ≤ o → ((i : ℕ) → from ≤ i → i < o → f i ≡ []) → joined f 0 (o + 1) ≡ joined f 0 from ++ f o
joined_next {A = A} f from o le none =
    let next : o + 1 ≡ suc o = omega arith in
    let here : 0 + o ≡ o = omega arith in
    let far : o ≡ from + (o - from) = omega arith in
    ap (joined f 0) next ∙ joined_more f 0 o
    ∙ (λ i. joined f 0 (far i) ++ f (here i))
    ∙ ap (λ (l : List A). l ++ f o) (joined_past f from (o - from) (λ i le' lt. none i le' (omega arith)))

pub outside_joined : (f : ℕ → List (ℕ × ℕ)) (x k n : ℕ) → ((i : ℕ) → k ≤ i → i < k + n → IsOutside (f i) x) → IsOutside (joined f k n) x
outside_joined f x k zero out = tt
outside_joined f x k (suc n) out = outside-both (f k) (joined f (k + 1) n) x (out k (omega arith) (omega arith)) (outside_joined f x (k + 1) n (λ i le lt. out i (omega arith) (omega arith)))

pub outside_at : (f : ℕ → List (ℕ × ℕ)) (x k n : ℕ) → IsOutside (joined f k n) x → (i : ℕ) → k ≤ i → i < k + n → IsOutside (f i) x
outside_at f x k zero out i le lt = absurd (omega arith)
outside_at f x k (suc n) out i le lt =
    let both = outside-append (f k) (joined f (k + 1) n) x out in
    ⊎_elim (λ is. subst (λ j. IsOutside (f j) x) is both.0) (λ ne. outside_at f x (k + 1) n both.1 i (omega arith) (omega arith)) (cases_eq k i)
