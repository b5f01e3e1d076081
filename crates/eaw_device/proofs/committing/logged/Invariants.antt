use Rattle.std.proofs.Common.{◌≡◌, ℕ, ◌&&◌, length}
use Rattle.std.specs.Prelude.{nat_lt}
use Rattle.array_shape.specs.NumberSet.{has}
use Rattle.eaw_face.specs.State.{listed}
use Rattle.eaw_device.specs.Logs.{ranges_logged}
use Rattle.eaw_device.proofs.committing.logged.Given as goal

abbrev pub invariant-loop-tid : goal.invariant-loop-tid
invariant-loop-tid l = record {
  numbers : (t : ℕ) → has l.group.bits t ≡ (nat_lt t l.tid && (has l.fn.tids.bits t && nat_lt 0 (length (listed (ranges_logged l.logs t)))));
}
