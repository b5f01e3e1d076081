use Rattle.std.proofs.Common.{◌≡◌, ℕ, length}
use Rattle.std.specs.Prelude.{slice_get, vec_capacity}
use Rattle.std.specs.Option.{ForSome}
use Rattle.write_back.specs.Kept.{IsFree}
use Rattle.write_back.proofs.deferred.places.Given as goal

abbrev pub invariant-loop-tid : goal.invariant-loop-tid
invariant-loop-tid l = record {
  room : vec_capacity l.table ≡ l.shape.numbers;
  many : length l.table.items ≡ l._tid;
  free : (t : ℕ) → ForSome (slice_get l.table.items t) (IsFree l.shape);
}
