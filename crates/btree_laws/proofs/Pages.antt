-- The pages of a tree after a removal are pages that it had.
use Rattle.std.proofs.Common.{◌≡◌, ◌≢◌, ℕ, zero, suc, ◌<◌, ◌≤◌, true, false, nat_lt, inl, inr, List, [], ◌∷◌, sym, ◌∙◌, ap, subst, arith}
use Rattle.std.proofs.lemmas.Bool.Decides.{leb_tells, eqb_tells}
use Rattle.btree_laws.proofs.Places.{join_place}
use Rattle.btree_laws.specs.Descent.{child_for, page_for}
use Rattle.btree_laws.specs.Removals.{JoinsLeft, JoinsRight, right_of, without_last, without_right}
use Rattle.btree_laws.specs.Sound.{AreBelow, AreSound, IsSoundTree, IsTree}
use Rattle.btree_laws.specs.declared.root.Root.{Root}
use Rattle.btree_laws.specs.Tree.{IsUnder, IsUnderSome, next_low}
use Rattle.index_pages.specs.Keys.{key_end}
use Rattle.index_pages.specs.Page.{page_pairs, pairs_said, level_of}
use Rattle.index_pages.specs.Ways.{above, IsOwn}
use Rattle.page_store.specs.Pairs.{Pair}
use Rattle.record_slots.specs.Places.{page_bytes, next_page}

some_right : (P : ℕ → Type 0) (es : List Pair) (key : ℕ) → IsUnderSome P (without_right es key) → IsUnderSome P es
some_right P [] key u = u
some_right P (e ∷ []) key u = u
some_right P (e ∷ f ∷ es) key u =
    elim (leb_tells (suc key) f.0) [
      | inl h ↦ let b : nat_lt key f.0 ≡ true = h.0 in let u' = rw b at u in elim u' [ inl a ↦ inl a | inr a ↦ inr (inr a) ]
      | inr h ↦ let b : nat_lt key f.0 ≡ false = h.0 in let u' = rw b at u in elim u' [ inl a ↦ inl a | inr a ↦ inr (some_right P (f ∷ es) key a) ]
    ]

some_last : (P : ℕ → Type 0) (es : List Pair) → IsUnderSome P (without_last es) → IsUnderSome P es
some_last P [] u = u
some_last P (e ∷ []) u = absurd u
some_last P (e ∷ f ∷ es) (inl u) = inl u
some_last P (e ∷ f ∷ es) (inr u) = inr (some_last P (f ∷ es) u)

-- no inner page names more than it did
module _ (root : Root) (old new : List ℕ) (x : ℕ) (fewer : (l p : ℕ) → IsOwn old p → level_of old p ≡ suc l → IsUnderSome (IsUnder l new x) (page_pairs new p) → IsUnderSome (IsUnder l new x) (page_pairs old p)) where
  back_some : (l : ℕ) → ((p low high : ℕ) → IsOwn old p → IsTree root l old p low high → IsUnder l new x p → IsUnder l old x p)
      → (es : List Pair) (high : ℕ) → AreBelow root.page (next_page old) es → AreSound (IsTree root l old) es high → IsUnderSome (IsUnder l new x) es → IsUnderSome (IsUnder l old x) es
  back_some l ih [] high are sound u = u
  back_some l ih (e ∷ es) high are sound (inl u) = inl (ih e.1 e.0 (next_low es high) (omega (arith, are.0.0), are.1) sound.0 u)
  back_some l ih (e ∷ es) high are sound (inr u) = inr (back_some l ih es high are.2 sound.1 u)

  pub under_back : (l p low high : ℕ) → IsOwn old p → IsTree root l old p low high → IsUnder l new x p → IsUnder l old x p
  under_back zero p low high own t u = u
  under_back (suc l) p low high own t (inl e) = inl e
  under_back (suc l) p low high own t (inr u) = inr (back_some l (under_back l) (page_pairs old p) high t.0.children t.1 (fewer l p own t.0.level_is u))

-- the parent names fewer leaves, and each other inner page is as it was
names_less : (old new : List ℕ) (x parent : ℕ) → ((P : ℕ → Type 0) → IsUnderSome P (page_pairs new parent) → IsUnderSome P (page_pairs old parent))
    → ((p : ℕ) → IsOwn old p → level_of old p ≢ 0 → p ≢ parent → page_bytes new p ≡ page_bytes old p)
    → (l p : ℕ) → IsOwn old p → level_of old p ≡ suc l → IsUnderSome (IsUnder l new x) (page_pairs new p) → IsUnderSome (IsUnder l new x) (page_pairs old p)
names_less old new x parent less kept l p own level u = elim (eqb_tells p parent) [
  | inl same ↦
      let u' : IsUnderSome (IsUnder l new x) (page_pairs new parent) = subst (λ (q : ℕ). IsUnderSome (IsUnder l new x) (page_pairs new q)) same.1 u in
      subst (λ (q : ℕ). IsUnderSome (IsUnder l new x) (page_pairs old q)) (sym same.1) (less (IsUnder l new x) u')
  | inr other ↦ subst (λ (b : List ℕ). IsUnderSome (IsUnder l new x) (pairs_said b)) (kept p own (λ none. omega (arith, none, level)) other.1) u
]

module _ (root : Root) (old new : List ℕ) (key x : ℕ) (sound : IsSoundTree root old) (levels : level_of new root.page ≡ level_of old root.page) where
  back : ((l p : ℕ) → IsOwn old p → level_of old p ≡ suc l → IsUnderSome (IsUnder l new x) (page_pairs new p) → IsUnderSome (IsUnder l new x) (page_pairs old p))
      → IsUnder (level_of new root.page) new x root.page → IsUnder (level_of old root.page) old x root.page
  back fewer u = under_back root old new x fewer (level_of old root.page) root.page 0 key_end sound.0 sound.2 (subst (λ (n : ℕ). IsUnder n new x root.page) levels u)

  pub had_before_loss : (leaf : ℕ) → level_of old leaf ≡ 0 → ((p : ℕ) → 1 ≤ p → p < next_page old → p ≢ leaf → page_bytes new p ≡ page_bytes old p)
      → IsUnder (level_of new root.page) new x root.page → IsUnder (level_of old root.page) old x root.page
  had_before_loss leaf bottom kept u = back (λ l p own level v.
      let other : p ≢ leaf = λ e. omega (arith, bottom, level, ap (λ (y : ℕ). level_of old y) e) in
      subst (λ (b : List ℕ). IsUnderSome (IsUnder l new x) (pairs_said b)) (kept p own.0 own.1 other) v) u

  pub had_before_right : (d : ℕ) → key < key_end → level_of old root.page ≡ above d 1 → JoinsRight old new (page_for d old root.page key) key
      → ((p : ℕ) → 1 ≤ p → p < next_page old → p ≢ page_for d old root.page key → p ≢ child_for (page_pairs old (page_for d old root.page key)) key
      → p ≢ right_of (page_pairs old (page_for d old root.page key)) key → page_bytes new p ≡ page_bytes old p)
      → IsUnder (level_of new root.page) new x root.page → IsUnder (level_of old root.page) old x root.page
  had_before_right d lt level joins kept u =
      let place = join_place root old d key sound lt level in
      let right = place.right joins.right in
      back (names_less old new x (page_for d old root.page key)
      (λ P v. some_right P (page_pairs old (page_for d old root.page key)) key (subst (λ (es : List Pair). IsUnderSome P es) joins.parent_is.entries_are v))
      (λ p own inner other. kept p own.0 own.1 other
      (λ e. inner (ap (λ (y : ℕ). level_of old y) (e ∙ place.leaf_is) ∙ place.leaf_level))
      (λ e. inner (ap (λ (y : ℕ). level_of old y) e ∙ right.2)))) u

  pub had_before_left : (d : ℕ) → key < key_end → level_of old root.page ≡ above d 1 → JoinsLeft old new (page_for d old root.page key) key
      → ((p : ℕ) → 1 ≤ p → p < next_page old → p ≢ page_for d old root.page key → p ≢ child_for (page_pairs old (page_for d old root.page key)) key → page_bytes new p ≡ page_bytes old p)
      → IsUnder (level_of new root.page) new x root.page → IsUnder (level_of old root.page) old x root.page
  had_before_left d lt level joins kept u =
      let place = join_place root old d key sound lt level in
      back (names_less old new x (page_for d old root.page key)
      (λ P v. some_last P (page_pairs old (page_for d old root.page key)) (subst (λ (es : List Pair). IsUnderSome P es) joins.parent_is.entries_are v))
      (λ p own inner other. kept p own.0 own.1 other
      (λ e. inner (ap (λ (y : ℕ). level_of old y) (e ∙ place.leaf_is) ∙ place.leaf_level)))) u
