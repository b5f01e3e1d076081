use Rattle.page_store.specs.Shown.{pages_of}
use Rattle.mars_core.specs.Purging.{IsOfFirst}
use Rattle.mars_core.proofs.Clearing.{Going}
use Rattle.mars_core.proofs.purging.clear.Given as goal

abbrev pub invariant-loop-table : goal.invariant-loop-table
invariant-loop-table g l = Going g.S.EawStore.tells (g.S.EawStore.opens (g.S.EawStore.view l.initial.records.store).shape) g.K.KeyIndex.index l.seats l.caller (IsOfFirst l.seats.names l.table) l.taken
    (pages_of (g.S.EawStore.view l.initial.records.store) l.initial.records) (pages_of (g.S.EawStore.view l.records.store) l.records)
