-- The pages of a removal's parts, by how the key's leaf is.
use Rattle.std.proofs.Common.{◌≡◌, ◌≢◌, ℕ, ◌≤◌, true, false, inl, inr, List, [], ◌∷◌, length, Option, Some, refl, sym, ◌∙◌, ap, arith}
use Rattle.std.specs.Prelude.{nat_eq, nat_le, ◌||◌, if◌then◌else◌}
use Rattle.std.specs.Option.{unwrap_or}
use Rattle.std.proofs.lemmas.Bool.{cases_eq}
use Rattle.std.proofs.lemmas.Bool.Decides.{leb_tells, nat_tests}
use Rattle.record_slots.specs.Places.{slot_page}
use Rattle.page_store.specs.Pairs.{found}
use Rattle.index_pages.specs.Page.{page_pairs, level_of, count_of}
use Rattle.btree_laws.proofs.Staying.{last_not}
use Rattle.btree_laws.specs.Descent.{leaf_for}
use Rattle.btree_laws.specs.Removals.{parent_for, right_of, stays_last}
use Rattle.btree_laws.specs.Tree.{pairs_of_tree}
use Rattle.btree_pages.specs.Index.{tree_removal}
use Rattle.index_pages.specs.Actions.{losing}
use Rattle.index_pages.proofs.Halved.{slot_found}
use Rattle.index_pages.proofs.PageFacts.{length-page_pairs}

-- A leaf without another pair takes those of the page to its right, which is freed; or it is the last of its parent, and is freed itself.
abbrev emptying : List ℕ → ℕ → ℕ → ℕ → ℕ → List ℕ
emptying bytes slot leaf parent right =
    if nat_eq right 0 then slot_page bytes slot ∷ parent ∷ leaf ∷ 0 ∷ [] else slot_page bytes slot ∷ leaf ∷ parent ∷ right ∷ 0 ∷ []

-- a leaf that is the root, or has other pairs, loses the pair; else it is emptied
abbrev removal_pages : List ℕ → ℕ → ℕ → ℕ → List ℕ
removal_pages bytes root key slot =
    if nat_eq (level_of bytes root) 0 || nat_le 2 (count_of bytes (leaf_for bytes root key)) then losing bytes slot (leaf_for bytes root key)
    else emptying bytes slot (leaf_for bytes root key) (parent_for bytes root key) (right_of (page_pairs bytes (parent_for bytes root key)) key)

module _ (bytes : List ℕ) (root key slot at : ℕ) (place : slot_page bytes slot ≡ at) (is : found (pairs_of_tree bytes root) key ≡ Some slot) where
  takes_some : stays_last bytes root key ≡ false → tree_removal bytes root key ≡ Some (removal_pages bytes root key slot)
  takes_some goes =
      (rw goes (ap (λ (s : ℕ). Some (removal_pages bytes root key s)) (slot_found (pairs_of_tree bytes root) key)
      ∙ ap (λ (o : Option ℕ). Some (removal_pages bytes root key (unwrap_or o 0))) is))

  -- the leaf keeps others, or is the root
  pub removal_loses : (leaf : ℕ) → leaf ≡ leaf_for bytes root key → (leaf ≢ root → 2 ≤ count_of bytes leaf) → (level_of bytes root ≢ 0 → leaf ≢ root) → tree_removal bytes root key ≡ Some (at ∷ leaf ∷ 0 ∷ [])
  removal_loses leaf leaf_is more other = takes_some goes ∙ ap (λ (ps : List ℕ). Some ps) (pages ∙ named)
    where
      many : level_of bytes root ≢ 0 → 2 ≤ count_of bytes (leaf_for bytes root key)
      many inner = omega (arith, more (other inner), ap (λ (x : ℕ). count_of bytes x) leaf_is)

      goes : stays_last bytes root key ≡ false
      goes = last_not bytes root key (λ s. omega (arith, s.alone, s.below, many (λ none. omega (arith, none, s.below))))

      named : losing bytes slot (leaf_for bytes root key) ≡ (at ∷ leaf ∷ 0 ∷ [])
      named = ap (λ (p : ℕ). p ∷ leaf_for bytes root key ∷ 0 ∷ []) place ∙ ap (λ (x : ℕ). at ∷ x ∷ 0 ∷ []) (sym leaf_is)

      pages : removal_pages bytes root key slot ≡ losing bytes slot (leaf_for bytes root key)
      pages = elim (cases_eq (level_of bytes root) 0) [
        | inl top ↦ let a : nat_eq (level_of bytes root) 0 ≡ true = grind (arith, nat_tests, top) in (rw a refl)
        | inr inner ↦
            let a : nat_eq (level_of bytes root) 0 ≡ false = grind (arith, nat_tests, inner) in
            let m = many inner in
            let b : nat_le 2 (count_of bytes (leaf_for bytes root key)) ≡ true = grind (arith, nat_tests, m) in
            (rw (a, b) refl)
      ]

  module _ (below : 1 ≤ level_of bytes root) (alone : count_of bytes (leaf_for bytes root key) ≡ 1) where
    emptied : 2 ≤ count_of bytes (parent_for bytes root key) → tree_removal bytes root key
        ≡ Some (emptying bytes slot (leaf_for bytes root key) (parent_for bytes root key) (right_of (page_pairs bytes (parent_for bytes root key)) key))
    emptied several =
        let goes : stays_last bytes root key ≡ false = last_not bytes root key (λ s. omega (arith, s.only, several)) in
        let a : nat_eq (level_of bytes root) 0 ≡ false = grind (arith, nat_tests, below) in
        let b : nat_le 2 (count_of bytes (leaf_for bytes root key)) ≡ false = grind (arith, nat_tests, alone) in
        let pages : removal_pages bytes root key slot ≡ emptying bytes slot (leaf_for bytes root key) (parent_for bytes root key) (right_of (page_pairs bytes (parent_for bytes root key)) key) = (rw (a, b) refl) in
        takes_some goes ∙ ap (λ (ps : List ℕ). Some ps) pages

    -- it takes the pairs of the page to its right
    pub removal_joins : (leaf parent right : ℕ) → leaf ≡ leaf_for bytes root key → parent ≡ parent_for bytes root key → right ≡ right_of (page_pairs bytes (parent_for bytes root key)) key → right ≢ 0
        → tree_removal bytes root key ≡ Some (at ∷ leaf ∷ parent ∷ right ∷ 0 ∷ [])
    removal_joins leaf parent right leaf_is parent_is right_is some =
        let r : right_of (page_pairs bytes (parent_for bytes root key)) key ≢ 0 = λ none. some (right_is ∙ none) in
        let c : nat_eq (right_of (page_pairs bytes (parent_for bytes root key)) key) 0 ≡ false = grind (arith, nat_tests, r) in
        let several : 2 ≤ count_of bytes (parent_for bytes root key) = elim (leb_tells 2 (count_of bytes (parent_for bytes root key))) [
          | inl h ↦ h.1
          | inr h ↦ absurd (r (few_none (page_pairs bytes (parent_for bytes root key)) key (let len = length-page_pairs bytes (parent_for bytes root key) in omega (arith, len, h.1))))
        ] in
        let pages : emptying bytes slot (leaf_for bytes root key) (parent_for bytes root key) (right_of (page_pairs bytes (parent_for bytes root key)) key)
        ≡ (slot_page bytes slot ∷ leaf_for bytes root key ∷ parent_for bytes root key ∷ right_of (page_pairs bytes (parent_for bytes root key)) key ∷ 0 ∷ []) = (rw c refl) in
        emptied several ∙ ap (λ (ps : List ℕ). Some ps) (pages ∙ ap (λ (p : ℕ). p ∷ leaf_for bytes root key ∷ parent_for bytes root key ∷ right_of (page_pairs bytes (parent_for bytes root key)) key ∷ 0 ∷ []) place
        ∙ ap (λ (x : ℕ). at ∷ x ∷ parent_for bytes root key ∷ right_of (page_pairs bytes (parent_for bytes root key)) key ∷ 0 ∷ []) (sym leaf_is)
        ∙ ap (λ (x : ℕ). at ∷ leaf ∷ x ∷ right_of (page_pairs bytes (parent_for bytes root key)) key ∷ 0 ∷ []) (sym parent_is)
        ∙ ap (λ (x : ℕ). at ∷ leaf ∷ parent ∷ x ∷ 0 ∷ []) (sym right_is))
      where
        few_none : (es : List (ℕ × ℕ)) (k : ℕ) → length es ≤ 1 → right_of es k ≡ 0
        few_none [] k few = refl
        few_none (e ∷ []) k few = refl
        few_none (e ∷ f ∷ es) k few = absurd (omega arith)

    -- or it is the last of several, and goes
    pub removal_leaves : (leaf parent : ℕ) → leaf ≡ leaf_for bytes root key → parent ≡ parent_for bytes root key → right_of (page_pairs bytes (parent_for bytes root key)) key ≡ 0
        → 2 ≤ count_of bytes (parent_for bytes root key) → tree_removal bytes root key ≡ Some (at ∷ parent ∷ leaf ∷ 0 ∷ [])
    removal_leaves leaf parent leaf_is parent_is none several =
        let c : nat_eq (right_of (page_pairs bytes (parent_for bytes root key)) key) 0 ≡ true = grind (arith, nat_tests, none) in
        let pages : emptying bytes slot (leaf_for bytes root key) (parent_for bytes root key) (right_of (page_pairs bytes (parent_for bytes root key)) key)
        ≡ (slot_page bytes slot ∷ parent_for bytes root key ∷ leaf_for bytes root key ∷ 0 ∷ []) = (rw c refl) in
        emptied several ∙ ap (λ (ps : List ℕ). Some ps) (pages ∙ ap (λ (p : ℕ). p ∷ parent_for bytes root key ∷ leaf_for bytes root key ∷ 0 ∷ []) place
        ∙ ap (λ (x : ℕ). at ∷ x ∷ leaf_for bytes root key ∷ 0 ∷ []) (sym parent_is) ∙ ap (λ (x : ℕ). at ∷ parent ∷ x ∷ 0 ∷ []) (sym leaf_is))
