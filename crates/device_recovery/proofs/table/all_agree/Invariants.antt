use Rattle.std.proofs.Common.{◌≡◌, ◌<◌, ℕ, true}
use Rattle.array_image.specs.Decided.{agrees}
use Rattle.device_recovery.specs.Table.{row_in}
use Rattle.device_recovery.proofs.table.all_agree.Given as goal

abbrev pub invariant-loop-logger : goal.invariant-loop-logger
invariant-loop-logger l = (g : ℕ) → g < l.logger → agrees l.ballot (row_in l.rows) g l.tid ≡ true
