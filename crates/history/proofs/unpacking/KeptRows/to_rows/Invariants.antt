use Rattle.std.proofs.Common.{◌≡◌, ◌++◌, length}
use Rattle.history.proofs.unpacking.KeptRows.to_rows.Given as goal

abbrev pub invariant-loop-key : goal.invariant-loop-key
invariant-loop-key l = l.rows ++ l.left ≡ l.self

abbrev pub decreases-loop-key : goal.decreases-loop-key
decreases-loop-key l = length l.left
