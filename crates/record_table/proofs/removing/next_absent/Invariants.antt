use Rattle.std.proofs.Common.{◌≡◌, ◌+◌, ◌-◌, ◌^◌, ◌≤◌, length, false, IsTrue}
use Rattle.page_store.specs.Index.{slots_of}
use Rattle.page_store.specs.Looks.{Looks}
use Rattle.page_store.specs.Shown.{pages_of}
use Rattle.record_table.specs.Names.{name_at}
use Rattle.record_table.specs.Removing.{HasNoAbsent}
use Rattle.record_table.specs.Hearing.{AllHeld}
use Rattle.eaw_face.specs.Command.{Command}
use Rattle.record_table.specs.Walked.{data_cost}
use Rattle.record_table.proofs.Counting.{many}
use Rattle.record_table.proofs.Walking.{Walking}
use Rattle.record_table.proofs.removing.next_absent.Given as goal

abbrev pub invariant-loop-next : goal.invariant-loop-next
invariant-loop-next g l = record {
  looks : Looks g.S.EawStore.tells (g.S.EawStore.opens (g.S.EawStore.view l.initial.pages.store).shape) false (pages_of (g.S.EawStore.view l.initial.pages.store) l.initial.pages) (pages_of (g.S.EawStore.view l.pages.store) l.pages);
  none : IsTrue g.S.EawStore.tells → HasNoAbsent g.K.KeyIndex.index (g.S.EawStore.view l.initial.pages.store).state.bytes (name_at (g.S.EawStore.view l.initial.pages.store).state.bytes l.table) l.from l.low;
  le : l.from ≤ l.low;
  left : length l.hearings.said + l.left ≡ slots_of (g.S.EawStore.view l.initial.pages.store).shape;
  keys : IsTrue g.S.EawStore.tells → many l.low (g.K.KeyIndex.index.pairs (g.S.EawStore.view l.initial.pages.store).state.bytes l.root) ≤ l.left;
  walking : Walking g.K.KeyIndex.access l.root (g.S.EawStore.calls l.initial.pages.store) (data_cost (g.S.EawStore.calls l.initial.pages.store) (g.S.EawStore.view l.initial.pages.store).shape) (g.S.EawStore.view l.initial.pages.store).shape
      false (length l.hearings.said) (g.S.EawStore.view l.initial.pages.store).moment (g.S.EawStore.view l.pages.store).moment l.hearings.said;
  steady : (command : Command) → g.S.EawStore.calls l.pages.store command ≡ g.S.EawStore.calls l.initial.pages.store command;
  held : AllHeld l.hearings.said;
}

abbrev pub decreases-loop-next : goal.decreases-loop-next
decreases-loop-next g l = 2 ^ 64 - l.low
