use Rattle.std.proofs.Common.{ℕ, ◌<◌}
use Rattle.history.specs.Locks.{touches}
use Rattle.history.specs.declared.call.TableCall.{TableCall}
use Rattle.caller_steps.specs.Locked.{Blocks}
use Rattle.mars_core.specs.Masks.{AreMasksOf}
use Rattle.mars_core.specs.Seats.{bare}
use Rattle.mars_core.proofs.seats.Seats.holder.Given as goal

-- no caller before this one holds a stripe of a call that touches these
abbrev pub invariant-loop-other : goal.invariant-loop-other
invariant-loop-other g l = (call : TableCall) → AreMasksOf (touches l.fn.self.names call) l.fn.masks
    → (holder : ℕ) → holder < l.other → Blocks (bare l.fn.self) l.fn.caller call holder → ⊥
