-- The pages that a removal comes to.
use Rattle.std.proofs.Common.{◌≡◌, ◌≢◌, ℕ, zero, suc, ◌<◌, ◌≤◌, true, false, nat_lt, inl, inr, List, [], ◌∷◌, length, refl, sym, ◌∙◌, ap, subst, arith}
use Rattle.std.proofs.lemmas.Bool.Decides.{leb_tells}
use Rattle.btree_laws.proofs.Apart.{sub_below, sub_of, subs_apart}
use Rattle.btree_laws.proofs.Entries.{right_given, right_under}
use Rattle.btree_laws.proofs.Splitting.{child_under}
use Rattle.btree_laws.proofs.Ways.{child_given, page_for_last, way_of, way_own}
use Rattle.btree_laws.specs.Descent.{child_for, leaf_for, page_for}
use Rattle.btree_laws.specs.Removals.{IsJoinPlace, right_of}
use Rattle.btree_laws.specs.Sound.{AreBelow, AreSound, IsSoundTree, IsTree}
use Rattle.btree_laws.specs.declared.root.Root.{Root}
use Rattle.btree_laws.specs.Tree.{IsUnder, IsUnderSome, next_low}
use Rattle.btree_laws.specs.TreeFacts.{tree_level}
use Rattle.index_pages.proofs.PageFacts.{length-page_pairs}
use Rattle.index_pages.specs.Keys.{key_end}
use Rattle.index_pages.specs.Page.{page_pairs, level_of}
use Rattle.index_pages.specs.Ways.{above, IsOwn}
use Rattle.page_store.specs.Pairs.{Pair}
use Rattle.record_slots.specs.Places.{next_page}

pub above_one : (d : ℕ) → above d 1 ≡ suc d
above_one zero = refl
above_one (suc d) = ap suc (above_one d)

-- the page to the right is another
right_apart : (root : Root) (old : List ℕ) (es : List Pair) (high key : ℕ) → AreBelow root.page (next_page old) es → AreSound (IsTree root 0 old) es high → right_of es key ≢ 0 → child_for es key ≡ right_of es key → ⊥
right_apart root old [] high key are sound some same = some refl
right_apart root old (e ∷ []) high key are sound some same = some refl
right_apart root old (e ∷ f ∷ es) high key are sound some same =
    elim (leb_tells (suc key) f.0) [
      | inl h ↦
          let b : nat_lt key f.0 ≡ true = h.0 in
          let is : child_for (e ∷ f ∷ es) key ≡ e.1 = rw b refl in
          let at : right_of (e ∷ f ∷ es) key ≡ f.1 = rw b refl in
          let one : e.1 ≡ f.1 = sym is ∙ same ∙ at in
          subs_apart root old e.1 0 0 e.0 f.0 f.0 (next_low es high) are.0.1 (omega arith) (sub_of root 0 old e.1 e.1 e.0 f.0 sound.0 refl) (sub_of root 0 old e.1 f.1 f.0 (next_low es high) sound.1.0 one)
      | inr h ↦
          let b : nat_lt key f.0 ≡ false = h.0 in
          let is : child_for (e ∷ f ∷ es) key ≡ child_for (f ∷ es) key = rw b refl in
          let at : right_of (e ∷ f ∷ es) key ≡ right_of (f ∷ es) key = rw b refl in
          right_apart root old (f ∷ es) high key are.2 sound.1 (λ none. some (at ∙ none)) (sym is ∙ same ∙ at)
    ]

level_under : (root : Root) (bytes : List ℕ) (q low high x : ℕ) → IsTree root 1 bytes q low high → IsUnderSome (IsUnder 0 bytes x) (page_pairs bytes q) → level_of bytes x ≡ 0
level_under root bytes q low high x t u =
    let sub = sub_below root 0 bytes x (sub_of root 0 bytes x) (page_pairs bytes q) high t.0.children t.1 u in
    omega (arith, tree_level root sub.m bytes x sub.from sub.to sub.tree, sub.most)

pub join_place : (root : Root) (bytes : List ℕ) (d key : ℕ) → IsSoundTree root bytes → key < key_end → level_of bytes root.page ≡ above d 1 → IsJoinPlace bytes (page_for d bytes root.page key) (leaf_for bytes root.page key) key
join_place root bytes d key sound lt level =
    let own : IsOwn bytes root.page = sound.0 in
    let t : IsTree root (above d 1) bytes root.page 0 key_end = subst (λ (n : ℕ). IsTree root n bytes root.page 0 key_end) level sound.2 in
    let q : ℕ = page_for d bytes root.page key in
    let w = way_of root d 1 bytes key root.page 0 key_end t (omega arith) lt in
    let own_q = way_own root d 1 bytes key root.page 0 key_end own t (omega arith) lt in
    let some : 1 ≤ length (page_pairs bytes (page_for d bytes root.page key)) = omega (arith, w.tree.0.some, length-page_pairs bytes (page_for d bytes root.page key)) in
    let c = child_given root bytes (page_pairs bytes (page_for d bytes root.page key)) key some w.tree.0.children in
    let c_level : level_of bytes (child_for (page_pairs bytes (page_for d bytes root.page key)) key) ≡ 0 =
    level_under root bytes (page_for d bytes root.page key) w.from w.to (child_for (page_pairs bytes (page_for d bytes root.page key)) key) w.tree (child_under 0 bytes (page_pairs bytes (page_for d bytes root.page key)) key some) in
    let leaf : leaf_for bytes root.page key ≡ child_for (page_pairs bytes (page_for d bytes root.page key)) key =
    ap (λ (n : ℕ). page_for n bytes root.page key) (level ∙ above_one d) ∙ page_for_last d bytes root.page key in
    subst (λ (x : ℕ). IsJoinPlace bytes (page_for d bytes root.page key) x key) (sym leaf) (record {
      leaf_is = refl;
      parent = own_q;
      parent_level = w.tree.0.level_is;
      some = w.tree.0.some;
      leaf_two = c.0.0;
      leaf_given = c.1;
      leaf_level = c_level;
      right = λ there. let g = right_given root bytes (page_pairs bytes (page_for d bytes root.page key)) key there w.tree.0.children in (
        g.0.0,
        g.1,
        level_under root bytes (page_for d bytes root.page key) w.from w.to (right_of (page_pairs bytes (page_for d bytes root.page key)) key) w.tree (right_under 0 bytes (page_pairs bytes (page_for d bytes root.page key)) key there),
        λ same. right_apart root bytes (page_pairs bytes (page_for d bytes root.page key)) w.to key w.tree.0.children w.tree.1 there (sym same),
      );
    })
