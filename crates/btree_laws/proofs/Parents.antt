-- A parent whose leaves are joined, and the tree that it is in.
use Rattle.std.proofs.Common.{◌≡◌, ◌≢◌, ℕ, ◌<◌, ◌≤◌, inr, List, [], length, Some, refl, sym, ◌∙◌, ap, subst, arith}
use Rattle.btree_laws.proofs.Apart.{sub_below, sub_of}
use Rattle.btree_laws.proofs.Entries.{children_last, children_right, length-last, length-right, next_low-last, next_low-right, right_under}
use Rattle.btree_laws.proofs.Joining.{Joins, joins_left, joins_right}
use Rattle.btree_laws.proofs.Removing.{alone_is, removed_local}
use Rattle.btree_laws.proofs.Splitting.{child_under, under_self}
use Rattle.btree_laws.proofs.Ways.{found_on_way, graft, way_of, way_under}
use Rattle.btree_laws.specs.Descent.{child_for, page_for}
use Rattle.btree_laws.specs.Frames.{children_kept}
use Rattle.btree_laws.specs.Removals.{IsParentWith, JoinsLeft, JoinsRight, right_of, without_last, without_right}
use Rattle.btree_laws.specs.Sound.{AreBelow, AreSound, IsSoundTree, IsTree}
use Rattle.btree_laws.specs.declared.root.Root.{Root}
use Rattle.btree_laws.specs.Tree.{IsPageOfTree, IsUnder, IsUnderSome, next_low, pairs_of_tree, pairs_under, pieces_with}
use Rattle.btree_laws.specs.TreeFacts.{tree_level}
use Rattle.index_pages.proofs.PageFacts.{length-page_pairs}
use Rattle.index_pages.specs.Keys.{key_end}
use Rattle.index_pages.specs.Page.{page_pairs, level_of, count_of}
use Rattle.index_pages.specs.Pieces.{joined}
use Rattle.index_pages.specs.Ways.{above, Keeps, IsOwn}
use Rattle.page_store.specs.Pairs.{Pair, Rise, found, removed}
use Rattle.record_slots.specs.Places.{page_bytes, next_page}

-- a page under the children of a parent of leaves is not that parent
not_parent : (root : Root) (old : List ℕ) (parent low high x : ℕ) → IsTree root 1 old parent low high → IsUnderSome (IsUnder 0 old x) (page_pairs old parent) → x ≢ parent
not_parent root old parent low high x t u e =
    let sub = sub_below root 0 old x (sub_of root 0 old x) (page_pairs old parent) high t.0.children t.1 u in
    omega (arith, ap (λ (y : ℕ). level_of old y) e, tree_level root sub.m old x sub.from sub.to sub.tree, sub.most, t.0.level_is)

-- the key's leaf has no pair but that of the key
alone_in : (root : Root) (old : List ℕ) (parent key slot low high : ℕ) → IsTree root 1 old parent low high → low ≤ key → key < high → found (pairs_under 1 old parent) key ≡ Some slot
    → count_of old (child_for (page_pairs old parent) key) ≡ 1 → removed (page_pairs old (child_for (page_pairs old parent) key)) key ≡ []
alone_in root old parent key slot low high t le lt is one =
    alone_is key slot (page_pairs old (child_for (page_pairs old parent) key)) (length-page_pairs old (child_for (page_pairs old parent) key) ∙ one)
    (sym (found_on_way root 1 0 old key parent low high t le lt) ∙ is)

-- the parent names other entries
parent_with : (root : Root) (old new : List ℕ) (parent key : ℕ) (es : List Pair) → IsParentWith new parent es → (low high : ℕ) → IsTree root 1 old parent low high
    → 1 ≤ length es → length es ≤ 30 → next_low es low ≡ low → AreBelow root.page (next_page new) es → high ≤ key_end → Joins root old new key (page_pairs old parent) es high
    → IsTree root 1 new parent low high × (pairs_under 1 new parent ≡ removed (pairs_under 1 old parent) key)
parent_with root old new parent key es is low high t some most first are small j =
    let count : count_of new parent ≡ length es = sym (length-page_pairs new parent) ∙ ap (λ (ps : List Pair). length ps) is.entries_are in (
      (
        record {
          kind = is.kind;
          level_is = is.level;
          link = is.link;
          some = omega arith;
          most = omega arith;
          first = subst (λ (ps : List Pair). next_low ps low ≡ low) (sym is.entries_are) first;
          rises = subst (λ (ps : List Pair). Rise low key_end ps) (sym is.entries_are) (j.rises low t.0.rises);
          children = subst (λ (ps : List Pair). AreBelow root.page (next_page new) ps) (sym is.entries_are) are;
        },
        subst (λ (ps : List Pair). AreSound (IsTree root 0 new) ps high) (sym is.entries_are) j.sound,
      ),
      ap (λ (ps : List Pair). joined (pieces_with (pairs_under 0 new) ps)) is.entries_are ∙ j.pairs,
    )

pub parent_joins_right : (root : Root) (old new : List ℕ) → Keeps old new → (parent key slot low high : ℕ) → IsTree root 1 old parent low high → low ≤ key → key < high → high ≤ key_end
    → found (pairs_under 1 old parent) key ≡ Some slot → JoinsRight old new parent key
    → ((x : ℕ) → IsUnder 1 old x parent → x ≢ parent → x ≢ child_for (page_pairs old parent) key → x ≢ right_of (page_pairs old parent) key → page_bytes new x ≡ page_bytes old x)
    → IsTree root 1 new parent low high × (pairs_under 1 new parent ≡ removed (pairs_under 1 old parent) key)
parent_joins_right root old new keeps parent key slot low high t le lt small is joins kept =
    let es : List Pair = page_pairs old parent in
    let len = length-page_pairs old parent in
    let some : 1 ≤ length (page_pairs old parent) = omega (arith, t.0.some, len) in
    let gone = alone_in root old parent key slot low high t le lt is joins.alone in
    let j = joins_right root old new keeps (child_for (page_pairs old parent) key) key gone (right_of (page_pairs old parent) key) joins.leaf_is
    (page_pairs old parent) high refl refl joins.right t.0.children t.1
    (λ x u a b. kept x (inr u) (not_parent root old parent low high x t u) a b) in
    let size = length-right (page_pairs old parent) key some in
    parent_with root old new parent key (without_right (page_pairs old parent) key) joins.parent_is low high t size.0 (omega (arith, size.1, t.0.most, len))
    (next_low-right (page_pairs old parent) key low ∙ t.0.first) (children_right root new (page_pairs old parent) key (children_kept root old new keeps (page_pairs old parent) t.0.children)) small j

pub parent_joins_left : (root : Root) (old new : List ℕ) → Keeps old new → (parent key slot low high : ℕ) → IsTree root 1 old parent low high → low ≤ key → key < high → high ≤ key_end
    → found (pairs_under 1 old parent) key ≡ Some slot → JoinsLeft old new parent key
    → ((x : ℕ) → IsUnder 1 old x parent → x ≢ parent → x ≢ child_for (page_pairs old parent) key → page_bytes new x ≡ page_bytes old x)
    → IsTree root 1 new parent low high × (pairs_under 1 new parent ≡ removed (pairs_under 1 old parent) key)
parent_joins_left root old new keeps parent key slot low high t le lt small is joins kept =
    let len = length-page_pairs old parent in
    let more : 2 ≤ length (page_pairs old parent) = omega (arith, joins.more, len) in
    let gone = alone_in root old parent key slot low high t le lt is joins.alone in
    let j = joins_left root old new keeps (child_for (page_pairs old parent) key) key gone
    (page_pairs old parent) high refl joins.last more t.0.children t.1
    (λ x u a. kept x (inr u) (not_parent root old parent low high x t u) a) in
    let size = length-last (page_pairs old parent) (omega arith) in
    parent_with root old new parent key (without_last (page_pairs old parent)) joins.parent_is low high t (omega (arith, size, more)) (omega (arith, size, t.0.most, len))
    (next_low-last (page_pairs old parent) low more ∙ t.0.first) (children_last root new (page_pairs old parent) (children_kept root old new keeps (page_pairs old parent) t.0.children)) small j

-- what is taken out under a parent on the key's way is taken out of the whole tree
sound_tree_under : (root : Root) (old new : List ℕ) (d key slot : ℕ) → IsSoundTree root old → Keeps old new → key < key_end → level_of old root.page ≡ above d 1
    → found (pairs_of_tree old root.page) key ≡ Some slot
    → ((from to : ℕ) → IsTree root 1 old (page_for d old root.page key) from to → from ≤ key → key < to → to ≤ key_end → found (pairs_under 1 old (page_for d old root.page key)) key ≡ Some slot
    → IsTree root 1 new (page_for d old root.page key) from to × (pairs_under 1 new (page_for d old root.page key) ≡ removed (pairs_under 1 old (page_for d old root.page key)) key))
    → ((x : ℕ) → IsPageOfTree old root.page x → (IsUnder 1 old x (page_for d old root.page key) → ⊥) → page_bytes new x ≡ page_bytes old x)
    → IsSoundTree root new × (pairs_of_tree new root.page ≡ removed (pairs_of_tree old root.page) key) × (level_of new root.page ≡ level_of old root.page)
unfolding pairs_of_tree
sound_tree_under root old new d key slot sound keeps lt e is changed kept =
    let own : IsOwn old root.page = sound.0 in
    let t : IsTree root (above d 1) old root.page 0 key_end = subst (λ (n : ℕ). IsTree root n old root.page 0 key_end) e sound.2 in
    let there : found (pairs_under 1 old (page_for d old root.page key)) key ≡ Some slot =
    sym (found_on_way root d 1 old key root.page 0 key_end t (omega arith) lt) ∙ ap (λ (n : ℕ). found (pairs_under n old root.page) key) (sym e) ∙ is in
    let r = graft root old new keeps (λ ps. removed ps key) key (removed_local key) 1 (page_for d old root.page key) key_end
    (λ from to sub le' lt' small. changed from to sub le' lt' small there)
    d root.page 0 key_end t (omega arith) lt (omega arith) refl
    (λ x u out. kept x (subst (λ (n : ℕ). IsUnder n old x root.page) (sym e) u) out) in
    let same : level_of new root.page ≡ level_of old root.page = tree_level root (above d 1) new root.page 0 key_end r.0 ∙ sym e in (
      ((own.0, omega (arith, own.1, keeps.pages)), omega (arith, sound.1, same), subst (λ (n : ℕ). IsTree root n new root.page 0 key_end) (sym (same ∙ e)) r.0),
      ap (λ (n : ℕ). pairs_under n new root.page) (same ∙ e) ∙ r.1 ∙ ap (λ (n : ℕ). removed (pairs_under n old root.page) key) (sym e),
      same,
    )

module _ (root : Root) (old : List ℕ) (d key : ℕ) (sound : IsSoundTree root old) (lt : key < key_end) (e : level_of old root.page ≡ above d 1) where
  abbrev at : ℕ
  at = page_for d old root.page key

  tree_above : IsTree root (above d 1) old root.page 0 key_end
  tree_above = subst (λ (n : ℕ). IsTree root n old root.page 0 key_end) e sound.2

  parent_some : 1 ≤ length (page_pairs old at)
  parent_some = let w = way_of root d 1 old key root.page 0 key_end tree_above (omega arith) lt in omega (arith, w.tree.0.some, length-page_pairs old at)

  -- the pages under the parent of the key's child are pages of the tree; that parent itself, the child of the key and the page to its right are under it
  of_tree : (x : ℕ) → IsUnder 1 old x at → IsPageOfTree old root.page x
  of_tree x u = subst (λ (n : ℕ). IsUnder n old x root.page) (sym e) (way_under root d 1 old key root.page 0 key_end x tree_above (omega arith) lt u)

  is_parent : (x : ℕ) → x ≡ at → IsUnder 1 old x at
  is_parent x same = subst (λ (y : ℕ). IsUnder 1 old y at) (sym same) (under_self 1 old at)

  is_child : (x : ℕ) → x ≡ child_for (page_pairs old at) key → IsUnder 1 old x at
  is_child x same = inr (subst (λ (y : ℕ). IsUnderSome (IsUnder 0 old y) (page_pairs old at)) (sym same) (child_under 0 old (page_pairs old at) key parent_some))

  is_right : (x : ℕ) → right_of (page_pairs old at) key ≢ 0 → x ≡ right_of (page_pairs old at) key → IsUnder 1 old x at
  is_right x right same = inr (subst (λ (y : ℕ). IsUnderSome (IsUnder 0 old y) (page_pairs old at)) (sym same) (right_under 0 old (page_pairs old at) key right))

pub sound_tree_joins_right : (root : Root) (old new : List ℕ) (d key slot : ℕ) → IsSoundTree root old → Keeps old new → key < key_end → level_of old root.page ≡ above d 1
    → found (pairs_of_tree old root.page) key ≡ Some slot → JoinsRight old new (page_for d old root.page key) key
    → ((x : ℕ) → IsPageOfTree old root.page x → x ≢ page_for d old root.page key → x ≢ child_for (page_pairs old (page_for d old root.page key)) key
    → x ≢ right_of (page_pairs old (page_for d old root.page key)) key → page_bytes new x ≡ page_bytes old x)
    → IsSoundTree root new × (pairs_of_tree new root.page ≡ removed (pairs_of_tree old root.page) key) × (level_of new root.page ≡ level_of old root.page)
sound_tree_joins_right root old new d key slot sound keeps lt e is joins kept =
    sound_tree_under root old new d key slot sound keeps lt e is
    (λ from to sub le' lt' small there. parent_joins_right root old new keeps (page_for d old root.page key) key slot from to sub le' lt' small there joins
    (λ x u a b c. kept x (of_tree root old d key sound lt e x u) a b c))
    (λ x u out. kept x u (λ same. out (is_parent root old d key sound lt e x same)) (λ same. out (is_child root old d key sound lt e x same))
    (λ same. out (is_right root old d key sound lt e x joins.right same)))

pub sound_tree_joins_left : (root : Root) (old new : List ℕ) (d key slot : ℕ) → IsSoundTree root old → Keeps old new → key < key_end → level_of old root.page ≡ above d 1
    → found (pairs_of_tree old root.page) key ≡ Some slot → JoinsLeft old new (page_for d old root.page key) key
    → ((x : ℕ) → IsPageOfTree old root.page x → x ≢ page_for d old root.page key → x ≢ child_for (page_pairs old (page_for d old root.page key)) key → page_bytes new x ≡ page_bytes old x)
    → IsSoundTree root new × (pairs_of_tree new root.page ≡ removed (pairs_of_tree old root.page) key) × (level_of new root.page ≡ level_of old root.page)
sound_tree_joins_left root old new d key slot sound keeps lt e is joins kept =
    sound_tree_under root old new d key slot sound keeps lt e is
    (λ from to sub le' lt' small there. parent_joins_left root old new keeps (page_for d old root.page key) key slot from to sub le' lt' small there joins
    (λ x u a b. kept x (of_tree root old d key sound lt e x u) a b))
    (λ x u out. kept x u (λ same. out (is_parent root old d key sound lt e x same)) (λ same. out (is_child root old d key sound lt e x same)))
