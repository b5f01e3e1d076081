use Rattle.std.proofs.Common.{◌&&◌, nat_lt}
use Rattle.array_shape.specs.NumberSet.{has}
use Rattle.commit_queue.specs.Deferred.{any_below}
use Rattle.coordinator.specs.Commits.{IsMaskOf, cells_in}
use Rattle.coordinator.proofs.ballots.ballot_for.Given as goal

abbrev pub invariant-loop-tid : goal.invariant-loop-tid
invariant-loop-tid l = IsMaskOf l.shape.loggers (λ g. any_below l.tid (λ t. has l.group t && nat_lt 0 (cells_in l.cells g t).count)) l.mask
