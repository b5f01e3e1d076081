use Rattle.std.proofs.Common.{◌≡◌, ◌-◌, false, IsTrue}
use Rattle.eaw_face.specs.Causes.{IsAlive}
use Rattle.record_slots.specs.Places.{next_slot}
use Rattle.page_store.specs.Looks.{Looks}
use Rattle.page_store.specs.Shown.{pages_of}
use Rattle.index_pages.specs.Held.{IsHeld}
use Rattle.index_pages.specs.Page.{pairs_from, pairs_said}
use Rattle.index_pages.proofs.Gathered.{RowsLeft}
use Rattle.btree_pages.proofs.Checks.{SlotsLeft}
use Rattle.std.specs.Prelude.{None}
use Rattle.page_store.specs.Index.{index_pages_of}
use Rattle.index_pages.specs.Plans.{slots_plan, held_of}
use Rattle.index_pages.proofs.Trying.{SoFar}
use Rattle.btree_pages.proofs.checking.check_slots.Given as goal

-- the data is as it was, what is held is of it, the pairs that are left decide for all, and what they hold is left to be gathered
abbrev pub invariant-loop-i : goal.invariant-loop-i
invariant-loop-i g l = record {
  looks : Looks g.S.EawStore.tells (g.S.EawStore.opens (g.S.EawStore.view l.fn.pages.store).shape) false
      (pages_of (g.S.EawStore.view l.fn.pages.store) l.fn.pages) (pages_of (g.S.EawStore.view l.pages.store) l.pages);
  alive : IsAlive (g.S.EawStore.view l.pages.store);
  rows : IsTrue g.S.EawStore.tells → RowsLeft (g.S.EawStore.view l.fn.pages.store).state.bytes l.fn.rows (pairs_said l.bytes) l.rows (pairs_from l.bytes l.i (l.count - l.i));
  held : IsTrue g.S.EawStore.tells → IsHeld (g.S.EawStore.view l.fn.pages.store).state.bytes l.held;
  left : IsTrue g.S.EawStore.tells → l.slots ≡ next_slot (g.S.EawStore.view l.fn.pages.store).state.bytes
      → SlotsLeft (g.S.EawStore.view l.fn.pages.store).state.bytes l.table l.page (pairs_said l.bytes) (pairs_from l.bytes l.i (l.count - l.i));
  tests : SoFar g.S.EawStore.tells (g.S.EawStore.calls l.fn.pages.store) (g.S.EawStore.calls l.pages.store)
      (slots_plan (index_pages_of (g.S.EawStore.view l.fn.pages.store).shape) l.slots l.table l.page (held_of l.held) (pairs_from l.bytes l.i (l.count - l.i)))
      (slots_plan (index_pages_of (g.S.EawStore.view l.fn.pages.store).shape) l.slots l.table l.page None (pairs_said l.bytes)) (g.S.EawStore.view l.fn.pages.store) (g.S.EawStore.view l.pages.store);
}
