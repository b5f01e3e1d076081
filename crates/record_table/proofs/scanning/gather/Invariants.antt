use Rattle.std.proofs.Common.{◌≡◌, ◌+◌, ◌-◌, ◌≤◌, ◌^◌, ◌++◌, ℕ, List, length, false, IsTrue}
use Rattle.page_store.specs.Index.{slots_of}
use Rattle.page_store.specs.Shown.{pages_of}
use Rattle.record_table.specs.Scanned.{rows_seen}
use Rattle.record_table.specs.Names.{IsCalled}
use Rattle.record_table.specs.Sought.{LooksAs}
use Rattle.record_table.specs.Hearing.{AllSpoke, rows_heard}
use Rattle.eaw_face.specs.Command.{Command}
use Rattle.record_table.specs.Seeks.{row_cost}
use Rattle.record_table.proofs.Counting.{many}
use Rattle.record_table.proofs.Walking.{Walking}
use Rattle.record_table.proofs.scanning.gather.Given as goal

abbrev pub invariant-loop-from : goal.invariant-loop-from
invariant-loop-from g l = record {
  left : length l.hearings.said + l.left ≡ slots_of (g.S.EawStore.view l.initial.pages.store).shape;
  keys : IsTrue g.S.EawStore.tells → many l.from (g.K.KeyIndex.index.pairs (g.S.EawStore.view l.initial.pages.store).state.bytes l.root) ≤ l.left;
  walking : Walking g.K.KeyIndex.access l.root (g.S.EawStore.calls l.initial.pages.store) (row_cost (g.S.EawStore.calls l.initial.pages.store) l.tid (g.S.EawStore.view l.initial.pages.store)) (g.S.EawStore.view l.initial.pages.store).shape
      false (length l.hearings.said) (g.S.EawStore.view l.initial.pages.store).moment (g.S.EawStore.view l.pages.store).moment l.hearings.said;
  steady : (command : Command) → g.S.EawStore.calls l.pages.store command ≡ g.S.EawStore.calls l.initial.pages.store command;
  spoke : AllSpoke l.hearings.said;
  heard : l.rows ≡ rows_heard l.hearings.said;
  looks : LooksAs g.S.EawStore.tells (g.S.EawStore.opens (g.S.EawStore.view l.initial.pages.store).shape) l.tid false (pages_of (g.S.EawStore.view l.initial.pages.store) l.initial.pages) (pages_of (g.S.EawStore.view l.pages.store) l.pages);
  rows : IsTrue g.S.EawStore.tells → (name : List ℕ) → IsCalled (g.S.EawStore.view l.initial.pages.store).state.bytes l.table name → l.rows ++ rows_seen g.K.KeyIndex.index l.tid name (pages_of (g.S.EawStore.view l.initial.pages.store) l.initial.pages) l.from l.high
      ≡ rows_seen g.K.KeyIndex.index l.tid name (pages_of (g.S.EawStore.view l.initial.pages.store) l.initial.pages) l.low l.high;
}

abbrev pub decreases-loop-from : goal.decreases-loop-from
decreases-loop-from g l = 2 ^ 64 - l.from
