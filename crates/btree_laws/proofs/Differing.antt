-- Trees of different roots and tables share no page.
use Rattle.std.proofs.Common.{◌≡◌, ◌≢◌, ℕ, zero, suc, ◌≤◌, ◌⊎◌, inl, inr, List, [], ◌∷◌, length, sym, ◌∙◌, subst, arith}
use Rattle.std.proofs.lemmas.Bool.Decides.{eqb_tells}
use Rattle.record_slots.specs.Places.{next_page}
use Rattle.page_store.specs.Pairs.{Pair}
use Rattle.index_pages.specs.Keys.{key_end}
use Rattle.index_pages.specs.Page.{page_pairs, level_of}
use Rattle.index_pages.proofs.PageFacts.{length-page_pairs}
use Rattle.index_pages.proofs.Owned.{given_once}
use Rattle.btree_laws.specs.declared.root.Root.{Root}
use Rattle.btree_laws.specs.Tree.{next_low, IsPageOfTree}
use Rattle.btree_laws.specs.Sound.{AreBelow, AreSound, IsTree, IsSoundTree}
use Rattle.btree_laws.specs.TreeFacts.{tree_level}
use Rattle.btree_laws.proofs.Apart.{sub_of}

module _ (bytes : List ℕ) (a b : Root) (differ : a.table ≢ b.table) where
  children_differ : (m : ℕ) → ((q low high low' high' : ℕ) → (q ≢ a.page) ⊎ (q ≢ b.page) → IsTree a m bytes q low high → IsTree b m bytes q low' high' → ⊥)
      → (es : List Pair) (high high' pages : ℕ) → 1 ≤ length es → AreBelow a.page pages es → AreSound (IsTree a m bytes) es high → AreSound (IsTree b m bytes) es high' → ⊥
  children_differ m ih [] high high' pages some are s t = omega arith
  children_differ m ih (e ∷ es) high high' pages some are s t = ih e.1 e.0 (next_low es high) e.0 (next_low es high') (inl are.0.1) s.0 t.0

  trees_differ : (m q low high low' high' : ℕ) → (q ≢ a.page) ⊎ (q ≢ b.page) → IsTree a m bytes q low high → IsTree b m bytes q low' high' → ⊥
  trees_differ zero q low high low' high' (inl other) s t =
      differ (given_once bytes a.table b.table (page_pairs bytes q) (omega (arith, s.0.some other, length-page_pairs bytes q)) s.1 t.1)
  trees_differ zero q low high low' high' (inr other) s t =
      differ (given_once bytes a.table b.table (page_pairs bytes q) (omega (arith, t.0.some other, length-page_pairs bytes q)) s.1 t.1)
  trees_differ (suc m) q low high low' high' other s t =
      children_differ m (trees_differ m) (page_pairs bytes q) high high' (next_page bytes) (omega (arith, s.0.some, length-page_pairs bytes q)) s.0.children s.1 t.1

  pub trees_apart : (x : ℕ) → a.page ≢ b.page → IsSoundTree a bytes → IsSoundTree b bytes → IsPageOfTree bytes a.page x → IsPageOfTree bytes b.page x → ⊥
  trees_apart x roots s t u v =
      let one = sub_of a (level_of bytes a.page) bytes x a.page 0 key_end s.2 u in
      let two = sub_of b (level_of bytes b.page) bytes x b.page 0 key_end t.2 v in
      let e : two.m ≡ one.m = sym (tree_level b two.m bytes x two.from two.to two.tree) ∙ tree_level a one.m bytes x one.from one.to one.tree in
      let tree : IsTree b one.m bytes x two.from two.to = subst (λ (m : ℕ). IsTree b m bytes x two.from two.to) e two.tree in
      trees_differ one.m x one.from one.to two.from two.to (other x) one.tree tree
    where
      other : (x : ℕ) → (x ≢ a.page) ⊎ (x ≢ b.page)
      other x = elim (eqb_tells x a.page) [ inl same ↦ inr (λ at. roots (sym same.1 ∙ at)) | inr far ↦ inl far.1 ]
