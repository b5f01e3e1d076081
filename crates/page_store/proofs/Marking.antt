-- What is kept of numbers, after a change of one.
use Rattle.std.proofs.Common.{◌≡◌, ℕ, zero, suc, ◌<◌, ◌≤◌, inl, inr, List, [], ◌∷◌, ◌++◌, length, get_or, take, drop, refl, sym, ◌∙◌, ap, set, arith}
use Rattle.std.specs.Prelude.{Option, Some, None, slice_get}
use Rattle.std.specs.Option.{option_map, option_and_then, unwrap_or}
use Rattle.std.proofs.lemmas.Bool.{cases_eq}
use Rattle.std.proofs.lemmas.List.{take-append-le, take_all}
use Rattle.std.proofs.lemmas.Option.{slice_get_past}
use Rattle.page_store.specs.State.{with_one}
use Rattle.page_store.specs.Marked.{Marked}
use Rattle.page_store.specs.Shown.{counts_in, top_in}
use Rattle.page_store.proofs.Numbers.{with_here, with_there, with_same}

module _ (marks : List Marked) (t : ℕ) (m : Marked) (there : t < length marks) where
  get_here : slice_get (set marks t m) t ≡ Some m
  get_here = go marks t there
    where
      go : (xs : List Marked) (k : ℕ) → k < length xs → slice_get (set xs k m) k ≡ Some m
      go [] k lt = absurd (omega (arith, lt))
      go (x ∷ xs) zero lt = refl
      go (x ∷ xs) (suc k) lt = go xs k (omega (arith, lt))

  get_there : (u : ℕ) → (u ≡ t → ⊥) → slice_get (set marks t m) u ≡ slice_get marks u
  get_there u ne = go marks t u ne
    where
      go : (xs : List Marked) (k j : ℕ) → (j ≡ k → ⊥) → slice_get (set xs k m) j ≡ slice_get xs j
      go [] k j ne = refl
      go (x ∷ xs) zero zero ne = absurd (ne refl)
      go (x ∷ xs) zero (suc j) ne = refl
      go (x ∷ xs) (suc k) zero ne = refl
      go (x ∷ xs) (suc k) (suc j) ne = go xs k j (λ same. ne (ap suc same))

  counts_at : (u : ℕ) → counts_in (set marks t m) u ≡ with_one (counts_in marks) t m.counts u
  counts_at u = elim (cases_eq u t) [
    | inl is ↦ ap (counts_in (set marks t m)) is ∙ ap (λ (o : Option Marked). unwrap_or (option_map (λ x. x.counts) o) []) get_here
        ∙ sym (with_here (counts_in marks) t m.counts) ∙ ap (with_one (counts_in marks) t m.counts) (sym is)
    | inr ne ↦ ap (λ (o : Option Marked). unwrap_or (option_map (λ x. x.counts) o) []) (get_there u ne) ∙ sym (with_there (counts_in marks) t m.counts u ne)
  ]

  pub counts_set : counts_in (set marks t m) ≡ with_one (counts_in marks) t m.counts
  counts_set = λ i u. counts_at u i

  top_at : (u : ℕ) → top_in (set marks t m) u ≡ with_one (top_in marks) t m.top u
  top_at u = elim (cases_eq u t) [
    | inl is ↦ ap (top_in (set marks t m)) is ∙ ap (λ (o : Option Marked). option_and_then (λ x. x.top) o) get_here
        ∙ sym (with_here (top_in marks) t m.top) ∙ ap (with_one (top_in marks) t m.top) (sym is)
    | inr ne ↦ ap (λ (o : Option Marked). option_and_then (λ x. x.top) o) (get_there u ne) ∙ sym (with_there (top_in marks) t m.top u ne)
  ]

  pub top_set : top_in (set marks t m) ≡ with_one (top_in marks) t m.top
  top_set = λ i u. top_at u i

-- what is kept of a number that there is
pub marked_at : (marks : List Marked) (t : ℕ) (m d : Marked) → t < length marks → m ≡ get_or marks t d → (counts_in marks t ≡ m.counts) × (top_in marks t ≡ m.top)
marked_at [] t m d lt is = absurd (omega (arith, lt))
marked_at (x ∷ xs) zero m d lt is = ((λ i. (sym is i).counts), (λ i. (sym is i).top))
marked_at (x ∷ xs) (suc t) m d lt is = marked_at xs t m d (omega (arith, lt)) is

-- the counts that are kept of a number now
pub counts_now : (marks : List Marked) (t : ℕ) (m : Marked) (ns : List ℕ) → t < length marks → m.counts ≡ ns → counts_in (set marks t m) t ≡ ns
counts_now marks t m ns lt is = ap (λ (f : ℕ → List ℕ). f t) (counts_set marks t m lt) ∙ with_here (counts_in marks) t m.counts ∙ is

-- one number's marks are replaced, at an index that is the number
module _ (marks : List Marked) (t k : ℕ) (k_is : k ≡ t) (there : t < length marks) (m d : Marked) (m_is : m ≡ get_or marks k d) where
  pub was : (counts_in marks t ≡ m.counts) × (top_in marks t ≡ m.top)
  was = marked_at marks t m d there (m_is ∙ ap (λ (j : ℕ). get_or marks j d) k_is)

  module _ (m' : Marked) where
    pub counts_become : (ns : List ℕ) → m'.counts ≡ ns → counts_in (set marks k m') ≡ with_one (counts_in marks) t ns
    counts_become ns is = ap (λ (j : ℕ). counts_in (set marks j m')) k_is ∙ counts_set marks t m' there ∙ ap (with_one (counts_in marks) t) is

    pub top_become : (o : Option ℕ) → m'.top ≡ o → top_in (set marks k m') ≡ with_one (top_in marks) t o
    top_become o is = ap (λ (j : ℕ). top_in (set marks j m')) k_is ∙ top_set marks t m' there ∙ ap (with_one (top_in marks) t) is

    pub counts_stay : m'.counts ≡ m.counts → counts_in (set marks k m') ≡ counts_in marks
    counts_stay is = counts_become (counts_in marks t) (is ∙ sym was.0) ∙ with_same (counts_in marks) t (counts_in marks t) refl

    pub top_stay : m'.top ≡ m.top → top_in (set marks k m') ≡ top_in marks
    top_stay is = top_become (top_in marks t) (is ∙ sym was.1) ∙ with_same (top_in marks) t (top_in marks t) refl

-- a number beyond the array's has saved nothing
pub counts_past : (marks : List Marked) (t : ℕ) → length marks ≤ t → counts_in marks t ≡ []
counts_past marks t past = ap (λ (o : Option Marked). unwrap_or (option_map (λ x. x.counts) o) []) (slice_get_past marks t past)

-- nor begun a top action
pub top_past : (marks : List Marked) (t : ℕ) → length marks ≤ t → top_in marks t ≡ None
top_past marks t past = ap (λ (o : Option Marked). option_and_then (λ x. x.top) o) (slice_get_past marks t past)

-- a list that is written over a list of its length
pub written_over : (n : ℕ) (items new : List Marked) → n ≡ length items → length new ≡ length items → take n (new ++ drop (length new) items) ≡ new
written_over n items new is same = take-append-le n new (drop (length new) items) (omega arith) ∙ take_all n new (omega arith)
