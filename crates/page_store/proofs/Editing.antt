-- The part that a write edits, looked for from the last one on.
use Rattle.std.proofs.Common.{◌≡◌, ℕ, ◌+◌, ◌<◌, ◌≤◌, inl, inr, Bool, true, false, ◌&&◌, List, [], ◌∷◌, zero, suc, length, refl, sym, ◌∙◌, ap, subst, arith}
use Rattle.std.specs.Prelude.{Option, Some, None}
use Rattle.std.proofs.lemmas.Bool.{cases_lt, cases_eq, lt-ltb, false≢true}
use Rattle.std.proofs.Math.Nat.{mul-le-mul_left}
use Rattle.array_shape.specs.declared.shape.Shape.{Shape}
use Rattle.array_shape.specs.Places.{data_len, IsShape, IsPlaced}
use Rattle.eaw_face.specs.State.{range_at}
use Rattle.eaw_face.specs.StoreView.{ArePlaced}
use Rattle.page_store.specs.Edit.{meet, edit_pos, IsEdited}
use Rattle.page_store.proofs.Exact.{edit_found, edit_there}

pub placed_at : (shape : Shape) (ranges : List (ℕ × ℕ)) (k : ℕ) → ArePlaced shape ranges → k < length ranges → IsPlaced shape (range_at ranges k).0 (range_at ranges k).1
placed_at shape [] k placed lt = absurd (omega (arith, lt))
placed_at shape (r ∷ rs) zero placed lt = placed.0
placed_at shape (r ∷ rs) (suc k) placed lt = placed_at shape rs k placed.1 (omega (arith, lt))

pub data_small : (shape : Shape) → IsShape shape → data_len shape ≤ 16777216
data_small shape is = grind (arith, is.most_loggers, is.most_pages, mul-le-mul_left shape.loggers is.most_pages)

meet_self : (addr len : ℕ) → 0 < len → meet (addr, len) (addr, len) ≡ true
meet_self addr len some = let lt : addr < addr + len = omega arith in ap (λ (b : Bool). b && b) (lt-ltb addr (addr + len) lt)

module _ (floor addr len : ℕ) (ranges : List (ℕ × ℕ)) (some : 0 < len) (pos : ℕ)
    (none_met : (k : ℕ) → pos ≤ k → k < length ranges → meet (addr, len) (range_at ranges k) ≡ false) where
  -- none of those that were passed is one of just this range
  not_passed : (k : ℕ) → pos ≤ k → IsEdited floor (addr, len) ranges k → ⊥
  not_passed k le is = false≢true (sym (none_met k le is.there) ∙ ap (meet (addr, len)) is.same ∙ meet_self addr len some)

  none_if : ((k : ℕ) → IsEdited floor (addr, len) ranges k → ⊥) → None ≡ edit_pos floor (addr, len) ranges
  none_if never = go (edit_pos floor (addr, len) ranges) (λ k is. never k (edit_found (addr, len) floor ranges k is))
    where
      go : (o : Option ℕ) → ((k : ℕ) → o ≡ Some k → ⊥) → None ≡ o
      go None not = refl
      go (Some k) not = absurd (not k refl)

  pub ended : pos ≤ floor → None ≡ edit_pos floor (addr, len) ranges
  ended le = none_if (λ k is. not_passed k (omega (arith, le, is.from)) is)

  module _ (q : ℕ) (next : q + 1 ≡ pos) (there : q < length ranges) where
    pub found : floor ≤ q → range_at ranges q ≡ (addr, len) → Some q ≡ edit_pos floor (addr, len) ranges
    found from same = sym (edit_there (addr, len) floor ranges q some (record {
      from = from;
      there = there;
      same = same;
      last = λ k lt lt'. none_met k (omega arith) lt';
    }))

    pub met : (range_at ranges q ≡ (addr, len) → ⊥) → meet (addr, len) (range_at ranges q) ≡ true → None ≡ edit_pos floor (addr, len) ranges
    met other meets = none_if (λ k is. elim (cases_lt k q) [
      | inl lt ↦ false≢true (sym (is.last q lt there) ∙ meets)
      | inr le ↦ elim (cases_eq k q) [
        | inl here ↦ other (subst (λ (j : ℕ). range_at ranges j ≡ (addr, len)) here is.same)
        | inr ne ↦ not_passed k (omega arith) is
      ]
    ])

    pub passed : meet (addr, len) (range_at ranges q) ≡ false → (k : ℕ) → q ≤ k → k < length ranges → meet (addr, len) (range_at ranges k) ≡ false
    passed apart k le lt = elim (cases_eq k q) [
      | inl here ↦ subst (λ (j : ℕ). meet (addr, len) (range_at ranges j) ≡ false) (sym here) apart
      | inr ne ↦ none_met k (omega arith) lt
    ]
