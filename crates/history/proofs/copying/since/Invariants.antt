use Rattle.std.proofs.Common.{◌≡◌, take}
use Rattle.history.proofs.copying.since.Given as goal

abbrev pub invariant-loop-i : goal.invariant-loop-i
invariant-loop-i l = l.copy ≡ take l.i l.dones
