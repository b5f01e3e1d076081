use Rattle.std.proofs.Common.{nat_lt}
use Rattle.coordinator.specs.Commits.{IsMaskOf, cells_in}
use Rattle.coordinator.proofs.ballots.loggers_of.Given as goal

abbrev pub invariant-loop-logger : goal.invariant-loop-logger
invariant-loop-logger l = IsMaskOf l.logger (λ g. nat_lt 0 (cells_in l.cells g l.tid).count) l.mask
