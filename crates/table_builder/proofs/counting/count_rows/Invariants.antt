use Rattle.std.proofs.Common.{◌≡◌, ◌+◌, drop}
use Rattle.table_builder.specs.Plan.{rows_count}
use Rattle.table_builder.proofs.counting.count_rows.Given as goal

abbrev pub invariant-loop-table : goal.invariant-loop-table
invariant-loop-table l = l.count + rows_count (drop l.table-index l.tables) ≡ rows_count l.tables
