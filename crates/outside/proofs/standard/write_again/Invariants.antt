use Rattle.std.proofs.Common.{◌≡◌}
use Rattle.std.specs.Io.KnownBytes.{Keeps}
use Rattle.outside.proofs.standard.write_again.Given as goal

abbrev pub invariant-turns : goal.invariant-turns
invariant-turns g l = Keeps (g.W.Write.contents l.fn.writer) (g.W.Write.contents l.writer) × (l.faults ≡ l.fn.faults)
