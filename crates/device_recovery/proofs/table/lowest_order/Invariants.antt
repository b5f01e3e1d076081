use Rattle.std.proofs.Common.{◌≡◌, ◌≤◌, ◌⊎◌}
use Rattle.device_recovery.specs.Table.{HasOrder, IsLeast}
use Rattle.device_recovery.proofs.table.lowest_order.Given as goal

abbrev pub invariant-loop-tid : goal.invariant-loop-tid
invariant-loop-tid l = (l.from ≤ l.lowest) × (l.lowest ≤ 65536) × IsLeast l.shape l.rows l.from l.tid l.lowest × ((l.lowest ≡ 65536) ⊎ HasOrder l.shape l.rows l.lowest)
