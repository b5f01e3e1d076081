use Rattle.std.proofs.Common.{◌≡◌, ◌-◌}
use Rattle.history.specs.Packed.{rows_at}
use Rattle.history.proofs.unpacking.behind_rows.Given as goal

abbrev pub invariant-loop-row : goal.invariant-loop-row
invariant-loop-row l = (rows_at (l.count - l._row) l.rest).1 ≡ (rows_at l.count l.bytes).1
