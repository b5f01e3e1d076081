use Rattle.std.proofs.Common.{◌-◌, ◌^◌, ◌<◌}
use Rattle.page_store.specs.Shown.{pages_of}
use Rattle.mars_core.specs.Purging.{IsBelow}
use Rattle.mars_core.proofs.Clearing.{Going}
use Rattle.mars_core.proofs.purging.clear_table.Given as goal

abbrev pub invariant-loop-key : goal.invariant-loop-key
invariant-loop-key g l = Going g.S.EawStore.tells (g.S.EawStore.opens (g.S.EawStore.view l.initial.records.store).shape) g.K.KeyIndex.index l.seats l.caller (IsBelow l.name l.from) l.taken
    (pages_of (g.S.EawStore.view l.initial.records.store) l.initial.records) (pages_of (g.S.EawStore.view l.records.store) l.records) × (l.from < 2 ^ 64)

abbrev pub decreases-loop-key : goal.decreases-loop-key
decreases-loop-key g l = 2 ^ 64 - l.from
