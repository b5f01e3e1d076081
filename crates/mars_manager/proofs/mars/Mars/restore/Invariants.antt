use Rattle.std.proofs.Common.{◌≡◌}
use Rattle.mars_manager.specs.Locks.{with_holds}
use Rattle.mars_manager.proofs.Knowns.{mixed}
use Rattle.mars_manager.proofs.mars.Mars.restore.Given as goal

-- the first stripes have what they shall have
abbrev pub invariant-loop-stripe : goal.invariant-loop-stripe
invariant-loop-stripe g l = record {
  table : l.pass.table ≡ l.fn.pass.table;
  known : l.pass.known ≡ with_holds (mixed l.stripe l.fn.holds l.fn.pass.known.holds) l.fn.pass.known;
}
