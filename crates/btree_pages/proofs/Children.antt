-- The child that has the key in its range, of a page on the key's way.
use Rattle.std.proofs.Common.{◌≡◌, ◌≢◌, ℕ, zero, suc, ◌+◌, ◌<◌, ◌≤◌, List, length, sym, ap, subst, arith}
use Rattle.record_slots.specs.Places.{page_bytes, next_page}
use Rattle.page_store.specs.Pairs.{Pair, Rise}
use Rattle.index_pages.specs.Keys.{key_end}
use Rattle.index_pages.specs.Page.{page_pairs, level_of}
use Rattle.index_pages.specs.Ways.{above}
use Rattle.index_pages.proofs.PageFacts.{length-page_pairs}
use Rattle.btree_laws.proofs.Apart.{start_of}
use Rattle.btree_laws.proofs.Ways.{Way, above-le, child_given, way_of}
use Rattle.btree_laws.specs.Descent.{child_for}
use Rattle.btree_laws.specs.Sound.{IsSoundTree, IsTree}
use Rattle.btree_laws.specs.Tree.{next_low}
use Rattle.btree_laws.specs.TreeFacts.{tree_level}
use Rattle.btree_pages.proofs.Descending.{child_step, node_of}
use Rattle.btree_pages.specs.Node.{IsNode}
use Rattle.btree_pages.specs.OnWay.{IsReached}
use Rattle.btree_laws.specs.declared.root.Root.{Root}

-- the child is given out and one level down
pub record IsChild (bytes : List ℕ) (child level : ℕ) : Type 0 where
  pub two : 2 ≤ child
  pub given : child < next_page bytes
  pub node : IsNode (page_bytes bytes child)
  pub level_is : level_of bytes child + 1 ≡ level
  pub rises : (low : ℕ) × (high : ℕ) × Rise low high (page_pairs bytes child)

-- the pairs of a page of a tree rise
pub rises_of : (root : Root) (m : ℕ) (bytes : List ℕ) (page low high : ℕ) → IsTree root m bytes page low high → (from : ℕ) × (to : ℕ) × Rise from to (page_pairs bytes page)
rises_of root zero bytes page low high t = (low, high, t.0.rises)
rises_of root (suc m) bytes page low high t = (low, key_end, t.0.rises)

pub reached_child : (root : Root) (bytes : List ℕ) (key page level : ℕ) (pairs : List Pair) → IsSoundTree root bytes → key < key_end → IsReached root bytes key page level pairs → level ≢ 0 → IsChild bytes (child_for pairs key) level
reached_child root bytes key page zero pairs sound lt reached inner = absurd (omega arith)
reached_child root bytes key page (suc m) pairs sound lt reached inner =
    let d : ℕ = reached.0 in
    let way = reached.1 in
    let top : IsTree root (above reached.0 (suc m)) bytes root.page 0 key_end = subst (λ (n : ℕ). IsTree root n bytes root.page 0 key_end) way.level_is sound.2 in
    let here : Way root bytes (suc m) page key 0 key_end = subst (λ (x : ℕ). Way root bytes (suc m) x key 0 key_end) (sym way.page_is) (way_of root reached.0 (suc m) bytes key root.page 0 key_end top (omega arith) lt) in
    let some : 1 ≤ length (page_pairs bytes page) = omega (arith, here.tree.0.some, length-page_pairs bytes page) in
    let there : child_for pairs key ≡ child_for (page_pairs bytes page) key = ap (λ (ps : List Pair). child_for ps key) way.pairs_are in
    let own = child_given root bytes (page_pairs bytes page) key some here.tree.0.children in
    let start : next_low (page_pairs bytes page) here.to ≡ here.from = start_of here.from here.to (page_pairs bytes page) some here.tree.0.first in
    let child = child_step root m bytes (page_pairs bytes page) here.to key some here.tree.0.children here.tree.1 (omega (arith, start, here.from_key)) here.key_to in
    let most : m ≤ 7 = omega (arith, sound.1, way.level_is, above-le reached.0 (suc m)) in
    subst (λ (c : ℕ). IsChild bytes c (suc m)) (sym there) (record {
      two = own.0.0;
      given = own.1;
      node = node_of root m bytes (child_for (page_pairs bytes page) key) child.from child.to most child.tree;
      rises = rises_of root m bytes (child_for (page_pairs bytes page) key) child.from child.to child.tree;
      level_is = (let e = tree_level root m bytes (child_for (page_pairs bytes page) key) child.from child.to child.tree in omega (arith, e));
    })
