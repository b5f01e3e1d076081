use Rattle.std.proofs.Common.{◌≡◌, drop}
use Rattle.history.specs.Rows.{are_same_rows}
use Rattle.history.proofs.rows.are_same.Given as goal

abbrev pub invariant-loop-i : goal.invariant-loop-i
invariant-loop-i l = are_same_rows l.one l.other ≡ are_same_rows (drop l.i l.one) (drop l.i l.other)
