use Rattle.std.proofs.Common.{◌≡◌}
use Rattle.mars_core.proofs.turns.gathered.Given as goal

abbrev pub invariant-loop-name : goal.invariant-loop-name
invariant-loop-name g l = l.all ≡ l.yielded
