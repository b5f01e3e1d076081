use Rattle.std.proofs.Common.{◌-◌, ◌+◌, ◌*◌, ◌↔◌, false, IsTrue}
use Rattle.eaw_face.specs.Causes.{IsAlive}
use Rattle.page_store.specs.Looks.{Looks}
use Rattle.page_store.specs.Shown.{pages_of}
use Rattle.index_pages.specs.Page.{pairs_from, pairs_said}
use Rattle.btree_pages.specs.Checked.{high_of, IsFrontOf}
use Rattle.index_pages.specs.Pieces.{joined}
use Rattle.index_pages.proofs.Gathered.{RowsLeft}
use Rattle.btree_laws.specs.Tree.{AreChildren, pieces_with, pairs_under}
use Rattle.btree_pages.proofs.Checks.{ChildrenLeft}
use Rattle.index_pages.proofs.Trying.{SoFar}
use Rattle.btree_pages.specs.Testing.{children_plan, under_plan}
use Rattle.btree_pages.proofs.checking.+under.Given as goal

abbrev pub decreases-check_under : goal.decreases-check_under
decreases-check_under g l = 3 * l.level + 2

abbrev pub decreases-check_page : goal.decreases-check_page
decreases-check_page g l = 3 * l.level + 1

abbrev pub decreases-check_children : goal.decreases-check_children
decreases-check_children g l = 3 * l.level

-- the data is as it was, the children that are left decide for all, and what they hold is left to be gathered
abbrev pub invariant-check_children-loop-i : goal.invariant-check_children-loop-i
invariant-check_children-loop-i g l = record {
  looks : Looks g.S.EawStore.tells (g.S.EawStore.opens (g.S.EawStore.view l.fn.pages.store).shape) false
      (pages_of (g.S.EawStore.view l.fn.pages.store) l.fn.pages) (pages_of (g.S.EawStore.view l.pages.store) l.pages);
  alive : IsAlive (g.S.EawStore.view l.pages.store);
  named : AreChildren l.front.next_page (pairs_from l.bytes l.i (l.count - l.i)) ↔ AreChildren l.front.next_page (pairs_said l.bytes);
  rows : IsTrue g.S.EawStore.tells → RowsLeft (g.S.EawStore.view l.fn.pages.store).state.bytes l.fn.rows
      (joined (pieces_with (pairs_under (l.level - 1) (g.S.EawStore.view l.fn.pages.store).state.bytes) (pairs_said l.bytes))) l.rows
      (joined (pieces_with (pairs_under (l.level - 1) (g.S.EawStore.view l.fn.pages.store).state.bytes) (pairs_from l.bytes l.i (l.count - l.i))));
  left : IsTrue g.S.EawStore.tells → IsFrontOf (g.S.EawStore.view l.fn.pages.store).state.bytes l.front
      → ChildrenLeft l.root (l.level - 1) (g.S.EawStore.view l.fn.pages.store).state.bytes (pairs_said l.bytes) (pairs_from l.bytes l.i (l.count - l.i)) (high_of l.high);
  tests : SoFar g.S.EawStore.tells (g.S.EawStore.calls l.fn.pages.store) (g.S.EawStore.calls l.pages.store)
      (children_plan (under_plan (g.S.EawStore.view l.fn.pages.store).shape l.front l.root.page l.root.table (l.level - 1)) (pairs_from l.bytes l.i (l.count - l.i)) (high_of l.high))
      (children_plan (under_plan (g.S.EawStore.view l.fn.pages.store).shape l.front l.root.page l.root.table (l.level - 1)) (pairs_said l.bytes) (high_of l.high))
      (g.S.EawStore.view l.fn.pages.store) (g.S.EawStore.view l.pages.store);
}
