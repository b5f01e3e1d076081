use Rattle.std.proofs.Common.{◌≡◌, ℕ, length}
use Rattle.std.specs.Prelude.{slice_get, vec_capacity}
use Rattle.std.specs.Option.{ForSome}
use Rattle.eaw_device.specs.Opening.{IsFree}
use Rattle.eaw_device.proofs.opening.free_logs.Given as goal

abbrev pub invariant-loop-tid : goal.invariant-loop-tid
invariant-loop-tid l = record {
  room : vec_capacity l.logs ≡ l.shape.numbers;
  many : length l.logs.items ≡ l._tid;
  free : (t : ℕ) → ForSome (slice_get l.logs.items t) (IsFree l.shape);
}
