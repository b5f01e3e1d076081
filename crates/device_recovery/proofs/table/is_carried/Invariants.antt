use Rattle.std.proofs.Common.{◌≡◌, ◌<◌, ℕ, true}
use Rattle.array_image.specs.Decided.{all_below}
use Rattle.array_image.specs.Decided.{agrees}
use Rattle.device_recovery.specs.Table.{row_in}
use Rattle.device_recovery.proofs.table.is_carried.Given as goal

abbrev pub invariant-loop-tid : goal.invariant-loop-tid
invariant-loop-tid l = (t : ℕ) → t < l.tid → all_below l.shape.loggers (λ g. agrees l.ballot (row_in l.rows) g t) ≡ true
