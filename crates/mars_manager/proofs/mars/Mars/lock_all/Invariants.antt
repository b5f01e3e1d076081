use Rattle.std.proofs.Common.{◌≡◌}
use Rattle.mars_manager.specs.Locks.{HasReadable}
use Rattle.mars_manager.specs.Asked.{IsReadingBelow, Meets}
use Rattle.mars_manager.proofs.Asking.{UpTo}
use Rattle.mars_manager.proofs.mars.Mars.lock_all.Given as goal

-- the first stripes were locked
abbrev pub invariant-loop-stripe : goal.invariant-loop-stripe
invariant-loop-stripe g l = record {
  table : l.pass.table ≡ l.fn.pass.table;
  known : HasReadable l.stripe l.fn.pass.known l.pass.known;
  steps : Meets (IsReadingBelow 64) l.fn.pass.known l.pass.known;
  up : UpTo l.stripe l.fn.pass.known l.pass.known;
}
