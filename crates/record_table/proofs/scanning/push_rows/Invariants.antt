use Rattle.std.proofs.Common.{◌≡◌, ◌+◌, ◌<◌, ◌≤◌, ◌++◌, ℕ, List, length, false, IsTrue, drop}
use Rattle.page_store.specs.Index.{slots_of}
use Rattle.page_store.specs.Pairs.{AreInside, InTurn}
use Rattle.page_store.specs.Shown.{pages_of}
use Rattle.record_table.specs.Scanned.{rows_seen}
use Rattle.record_table.specs.Names.{IsCalled}
use Rattle.record_table.specs.Sought.{LooksAs}
use Rattle.record_table.specs.Hearing.{AllSpoke, rows_heard}
use Rattle.eaw_face.specs.Command.{Command}
use Rattle.record_table.specs.Seeks.{row_cost}
use Rattle.record_table.specs.Walked.{behind, heard_cost}
use Rattle.record_table.proofs.scanning.push_rows.Given as goal

-- the pairs that are left come next from the key on, and so do the rows under them
abbrev pub invariant-loop-pair : goal.invariant-loop-pair
invariant-loop-pair g l = record {
  looks : LooksAs g.S.EawStore.tells (g.S.EawStore.opens (g.S.EawStore.view l.initial.pages.store).shape) l.tid false (pages_of (g.S.EawStore.view l.initial.pages.store) l.initial.pages) (pages_of (g.S.EawStore.view l.pages.store) l.pages);
  turn : IsTrue g.S.EawStore.tells → InTurn (g.K.KeyIndex.index.pairs (g.S.EawStore.view l.initial.pages.store).state.bytes l.span.root) l.from (drop l.pair-index l.pairs);
  inside : AreInside l.from (slots_of (g.S.EawStore.view l.initial.pages.store).shape) (drop l.pair-index l.pairs);
  low : l.span.low ≤ l.from;
  later : 1 ≤ l.pair-index → l.span.low < l.from;
  high : l.from ≤ l.span.high;
  index : l.pair-index ≤ length l.pairs;
  met : length l.hearings.said ≡ length l.initial.hearings.said + l.pair-index;
  ends : behind l.from (drop l.pair-index l.pairs) ≡ behind l.span.low l.pairs;
  paid : (g.S.EawStore.view l.pages.store).moment + heard_cost (row_cost (g.S.EawStore.calls l.initial.pages.store) l.tid (g.S.EawStore.view l.initial.pages.store)) l.initial.hearings.said
      ≡ (g.S.EawStore.view l.initial.pages.store).moment + heard_cost (row_cost (g.S.EawStore.calls l.initial.pages.store) l.tid (g.S.EawStore.view l.initial.pages.store)) l.hearings.said;
  steady : (command : Command) → g.S.EawStore.calls l.pages.store command ≡ g.S.EawStore.calls l.initial.pages.store command;
  spoke : AllSpoke l.hearings.said;
  heard : l.rows ≡ rows_heard l.hearings.said;
  rows : IsTrue g.S.EawStore.tells → (name : List ℕ) → IsCalled (g.S.EawStore.view l.initial.pages.store).state.bytes l.span.table name → l.rows ++ rows_seen g.K.KeyIndex.index l.tid name (pages_of (g.S.EawStore.view l.initial.pages.store) l.initial.pages) l.from l.span.high
      ≡ l.initial.rows ++ rows_seen g.K.KeyIndex.index l.tid name (pages_of (g.S.EawStore.view l.initial.pages.store) l.initial.pages) l.span.low l.span.high;
}
