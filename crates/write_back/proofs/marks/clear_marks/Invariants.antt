use Rattle.std.proofs.Common.{◌≡◌, ℕ, ◌<◌, not, ◌&&◌, nat_eq, take}
use Rattle.std.specs.Prelude.{slice_index}
use Rattle.array_shape.specs.NumberSet.{has}
use Rattle.write_back.specs.Kept.{lies_on}
use Rattle.write_back.proofs.marks.clear_marks.Given as goal

abbrev pub invariant-loop-entry : goal.invariant-loop-entry
invariant-loop-entry l = (p t : ℕ) → t < 64 → has (slice_index l.masks p) t ≡ (not (nat_eq t l.tid && lies_on p (take l.entry-index l.entries)) && has (slice_index l.fn.masks p) t)
