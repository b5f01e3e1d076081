use Rattle.std.proofs.Common.{◌≡◌, ◌<◌, ℕ, [], true, false}
use Rattle.array_shape.specs.NumberSet.{has}
use Rattle.write_back.specs.Shown.{HasPlaces, entries_of, shape_of}
use Rattle.write_back.proofs.forgetting.forget_group.Given as goal

abbrev pub invariant-loop-tid : goal.invariant-loop-tid
invariant-loop-tid l = record {
  shape : shape_of l.parts ≡ l.shape;
  places : HasPlaces l.parts;
  gone : (t : ℕ) → t < l.tid → has l.fn.group t ≡ true → entries_of l.parts t ≡ [];
  others : (t : ℕ) → has l.fn.group t ≡ false → entries_of l.parts t ≡ entries_of l.fn.parts t;
}
