use Rattle.std.proofs.Common.{◌≡◌, ◌-◌, ◌≤◌, false, IsTrue}
use Rattle.eaw_face.specs.Causes.{IsAlive}
use Rattle.record_slots.specs.Places.{next_slot}
use Rattle.page_store.specs.Looks.{Looks}
use Rattle.page_store.specs.Shown.{pages_of}
use Rattle.index_pages.specs.Held.{IsHeld}
use Rattle.index_pages.specs.Keys.{key_end}
use Rattle.index_pages.specs.Page.{pairs_from, pairs_said}
use Rattle.key_list.specs.Chain.{behind}
use Rattle.key_list.specs.Checked.{low_of}
use Rattle.index_pages.proofs.Gathered.{RowsLeft}
use Rattle.key_list.proofs.Testing.{PairsLeft}
use Rattle.std.specs.Prelude.{None}
use Rattle.page_store.specs.Index.{index_pages_of}
use Rattle.index_pages.specs.Plans.{held_of}
use Rattle.index_pages.proofs.Trying.{SoFar}
use Rattle.key_list.specs.Tried.{pairs_plan}
use Rattle.key_list.proofs.checking.check_pairs.Given as goal

-- the data is as it was, what is held is of it, what becomes of the pairs that are left becomes of all, and what they hold is left to be gathered
abbrev pub invariant-loop-i : goal.invariant-loop-i
invariant-loop-i g l = record {
  looks : Looks g.S.EawStore.tells (g.S.EawStore.opens (g.S.EawStore.view l.fn.pages.store).shape) false
      (pages_of (g.S.EawStore.view l.fn.pages.store) l.fn.pages) (pages_of (g.S.EawStore.view l.pages.store) l.pages);
  alive : IsAlive (g.S.EawStore.view l.pages.store);
  rows : IsTrue g.S.EawStore.tells → RowsLeft (g.S.EawStore.view l.fn.pages.store).state.bytes l.fn.rows (pairs_said l.bytes) l.rows (pairs_from l.bytes l.i (l.count - l.i));
  held : IsTrue g.S.EawStore.tells → IsHeld (g.S.EawStore.view l.fn.pages.store).state.bytes l.held;
  low : low_of l.last ≤ key_end;
  ends : behind (low_of l.last) (pairs_from l.bytes l.i (l.count - l.i)) ≡ behind (low_of l.fn.last) (pairs_said l.bytes);
  left : IsTrue g.S.EawStore.tells → l.slots ≡ next_slot (g.S.EawStore.view l.fn.pages.store).state.bytes → PairsLeft (g.S.EawStore.view l.fn.pages.store).state.bytes l.table l.page (low_of l.fn.last) (pairs_said l.bytes) (low_of l.last) (pairs_from l.bytes l.i (l.count - l.i));
  tests : SoFar g.S.EawStore.tells (g.S.EawStore.calls l.fn.pages.store) (g.S.EawStore.calls l.pages.store)
      (pairs_plan (index_pages_of (g.S.EawStore.view l.fn.pages.store).shape) l.slots l.table l.page (low_of l.last) (held_of l.held) (pairs_from l.bytes l.i (l.count - l.i)))
      (pairs_plan (index_pages_of (g.S.EawStore.view l.fn.pages.store).shape) l.slots l.table l.page (low_of l.fn.last) None (pairs_said l.bytes)) (g.S.EawStore.view l.fn.pages.store) (g.S.EawStore.view l.pages.store);
}
