use Rattle.std.proofs.Common.{◌≡◌}
use Rattle.std.specs.Io.KnownBytes.{Keeps}
use Rattle.outside.proofs.standard.read_again.Given as goal

abbrev pub invariant-turns : goal.invariant-turns
invariant-turns g l = Keeps (g.R.Read.remaining l.fn.reader) (g.R.Read.remaining l.reader) × (l.faults ≡ l.fn.faults)
