use Rattle.std.proofs.Common.{◌≡◌, ◌≤◌, ◌⊎◌}
use Rattle.device_recovery.specs.Table.{HasOrder, IsLeastAt}
use Rattle.device_recovery.proofs.table.lowest_at.Given as goal

abbrev pub invariant-loop-logger : goal.invariant-loop-logger
invariant-loop-logger l = (l.from ≤ l.lowest) × (l.lowest ≤ l.found) × IsLeastAt l.shape l.rows l.from l.tid l.logger l.lowest × ((l.lowest ≡ l.found) ⊎ HasOrder l.shape l.rows l.lowest)
