-- Entries of a parent, of which one is taken out.
use Rattle.std.proofs.Common.{◌≡◌, ◌≢◌, ℕ, suc, ◌<◌, ◌≤◌, true, false, nat_lt, inl, inr, List, [], ◌∷◌, length, refl, sym, ap, subst, arith}
use Rattle.std.proofs.lemmas.Bool.Decides.{leb_tells}
use Rattle.btree_laws.proofs.Splitting.{under_self}
use Rattle.btree_laws.specs.Removals.{right_of, without_last, without_right}
use Rattle.btree_laws.specs.Sound.{AreBelow}
use Rattle.btree_laws.specs.declared.root.Root.{Root}
use Rattle.btree_laws.specs.Tree.{IsUnder, IsUnderSome, next_low}
use Rattle.page_store.specs.Pairs.{Pair}
use Rattle.record_slots.specs.Places.{next_page}

-- the page to the right of a key's child is one of the children
pub right_under : (l : ℕ) (bytes : List ℕ) (es : List Pair) (key : ℕ) → right_of es key ≢ 0 → IsUnderSome (IsUnder l bytes (right_of es key)) es
right_under l bytes [] key some = absurd (some refl)
right_under l bytes (e ∷ []) key some = absurd (some refl)
right_under l bytes (e ∷ f ∷ es) key some =
    elim (leb_tells (suc key) f.0) [
      | inl h ↦ let b : nat_lt key f.0 ≡ true = h.0 in rw b (inr (inl (under_self l bytes f.1)))
      | inr h ↦ let b : nat_lt key f.0 ≡ false = h.0 in
          let is : right_of (e ∷ f ∷ es) key ≡ right_of (f ∷ es) key = rw b refl in
          subst (λ (y : ℕ). IsUnderSome (IsUnder l bytes y) (e ∷ f ∷ es)) (sym is) (inr (right_under l bytes (f ∷ es) key (λ none. some (subst (λ (y : ℕ). y ≡ 0) (sym is) none))))
    ]

pub right_given : (root : Root) (bytes : List ℕ) (es : List Pair) (key : ℕ) → right_of es key ≢ 0 → AreBelow root.page (next_page bytes) es → ((2 ≤ right_of es key) × (right_of es key ≢ root.page)) × (right_of es key < next_page bytes)
right_given root bytes [] key some are = absurd (some refl)
right_given root bytes (e ∷ []) key some are = absurd (some refl)
right_given root bytes (e ∷ f ∷ es) key some are =
    elim (leb_tells (suc key) f.0) [
      | inl h ↦ let b : nat_lt key f.0 ≡ true = h.0 in rw b (are.2.0, are.2.1)
      | inr h ↦ let b : nat_lt key f.0 ≡ false = h.0 in
          let is : right_of (e ∷ f ∷ es) key ≡ right_of (f ∷ es) key = rw b refl in
          rw b (right_given root bytes (f ∷ es) key (λ none. some (subst (λ (y : ℕ). y ≡ 0) (sym is) none)) are.2)
    ]

-- without the entry to the right
pub next_low-right : (es : List Pair) (key low : ℕ) → next_low (without_right es key) low ≡ next_low es low
next_low-right [] key low = refl
next_low-right (e ∷ []) key low = refl
next_low-right (e ∷ f ∷ es) key low =
    elim (leb_tells (suc key) f.0) [
      | inl h ↦ let b : nat_lt key f.0 ≡ true = h.0 in rw b refl
      | inr h ↦ let b : nat_lt key f.0 ≡ false = h.0 in rw b refl
    ]

pub length-right : (es : List Pair) (key : ℕ) → 1 ≤ length es → (1 ≤ length (without_right es key)) × (length (without_right es key) ≤ length es)
length-right [] key some = absurd (omega arith)
length-right (e ∷ []) key some = (omega arith, omega arith)
length-right (e ∷ f ∷ es) key some =
    elim (leb_tells (suc key) f.0) [
      | inl h ↦ let b : nat_lt key f.0 ≡ true = h.0 in rw b (omega arith, omega arith)
      | inr h ↦ let b : nat_lt key f.0 ≡ false = h.0 in let ih = length-right (f ∷ es) key (omega arith) in rw b (omega (arith, ih.0), omega (arith, ih.1))
    ]

pub children_right : (root : Root) (bytes : List ℕ) (es : List Pair) (key : ℕ) → AreBelow root.page (next_page bytes) es → AreBelow root.page (next_page bytes) (without_right es key)
children_right root bytes [] key are = are
children_right root bytes (e ∷ []) key are = are
children_right root bytes (e ∷ f ∷ es) key are =
    elim (leb_tells (suc key) f.0) [
      | inl h ↦ let b : nat_lt key f.0 ≡ true = h.0 in rw b (are.0, are.1, are.2.2)
      | inr h ↦ let b : nat_lt key f.0 ≡ false = h.0 in rw b (are.0, are.1, children_right root bytes (f ∷ es) key are.2)
    ]

-- without the last entry
pub next_low-last : (es : List Pair) (low : ℕ) → 2 ≤ length es → next_low (without_last es) low ≡ next_low es low
next_low-last [] low some = absurd (omega arith)
next_low-last (e ∷ []) low some = absurd (omega arith)
next_low-last (e ∷ f ∷ es) low some = refl

pub length-last : (es : List Pair) → 1 ≤ length es → length es ≡ suc (length (without_last es))
length-last [] some = absurd (omega arith)
length-last (e ∷ []) some = refl
length-last (e ∷ f ∷ es) some = ap suc (length-last (f ∷ es) (omega arith))

pub children_last : (root : Root) (bytes : List ℕ) (es : List Pair) → AreBelow root.page (next_page bytes) es → AreBelow root.page (next_page bytes) (without_last es)
children_last root bytes [] are = are
children_last root bytes (e ∷ []) are = tt
children_last root bytes (e ∷ f ∷ es) are = (are.0, are.1, children_last root bytes (f ∷ es) are.2)
