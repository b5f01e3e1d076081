use Rattle.std.proofs.Common.{◌↔◌, drop}
use Rattle.table_builder.specs.Plan.{AreSorted}
use Rattle.table_builder.proofs.sorting.are_sorted.Given as goal

abbrev pub invariant-loop-table : goal.invariant-loop-table
invariant-loop-table l = AreSorted l.tables ↔ AreSorted (drop l.table-index l.tables)
