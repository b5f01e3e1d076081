-- What a look goes down from in a tree, and what a removal knows of a leaf that has one pair.
use Rattle.std.specs.Prelude.{ℕ, ◌≡◌, ◌<◌, ◌≤◌, Bool, List, Some, IsTrue}
use Rattle.array_shape.specs.Places.{page_count}
use Rattle.eaw_face.specs.Causes.{IsAlive}
use Rattle.eaw_face.specs.StoreView.{StoreView}
use Rattle.page_store.specs.Index.{IsTable, index_pages_of}
use Rattle.page_store.specs.Pairs.{Pair, found}
use Rattle.index_pages.specs.Page.{count_of}
use Rattle.btree_laws.specs.Descent.{child_for}
use Rattle.btree_laws.specs.Tree.{pairs_of_tree}
use Rattle.btree_laws.specs.declared.root.Root.{Root}
use Rattle.btree_pages.specs.Index.{AreSoundTrees}
use Rattle.btree_pages.specs.OnWay.{IsReached}
use Rattle.btree_pages.specs.Start.{IsStart}
use Rattle.btree_pages.specs.Writes.{IsRead}
use Rattle.btree_pages.specs.declared.look.Start.{Start}

-- A look may begin there: it is a page of the array, and one to eight pages may be read. Where the store tells its data and is alive, the trees
-- are sound, this is the table's root, and the page is on the way of the key, with no more pages to its leaf.
pub record MayStart (tells : Bool) (root : Root) (start : Start) (store : StoreView) : Type 0 where
  pub inside : start.page < page_count store.shape
  pub some : 1 ≤ start.most
  pub most : start.most ≤ 8
  pub sound : IsTrue tells → IsAlive store → AreSoundTrees store.state.bytes
  pub named : IsTrue tells → IsAlive store → IsTable store.state.bytes root.table root.page
  pub begins : IsTrue tells → IsAlive store → IsStart root store.state.bytes start

-- a leaf that has one pair alone, that of the key and this slot, and its parent as it was read
pub record IsLone (tells : Bool) (store : StoreView) (root : Root) (key slot leaf page level : ℕ) (entries : List Pair) : Type 0 where
  pub finds : IsTrue tells → found (pairs_of_tree store.state.bytes root.page) key ≡ Some slot
  pub inside : leaf < index_pages_of store.shape
  pub leaf_is : leaf ≡ child_for entries key
  pub alone : IsTrue tells → count_of store.state.bytes leaf ≡ 1
  pub parent : IsRead store.shape page level entries
  pub level_is : level ≡ 1
  pub reached : IsTrue tells → IsReached root store.state.bytes key page level entries
