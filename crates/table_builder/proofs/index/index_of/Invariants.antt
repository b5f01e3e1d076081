use Rattle.std.proofs.Common.{◌≡◌, ◌+◌, ◌++◌, suc, drop, length}
use Rattle.table_builder.specs.Plan.{below_bytes, built_for, built_from, roots_bytes, rows_count}
use Rattle.table_builder.proofs.index.index_of.Given as goal

-- the tables so far are written, and their rows are counted
abbrev pub invariant-loop-table : goal.invariant-loop-table
invariant-loop-table l = record {
  roots : l.roots.items ++ roots_bytes l.slot (built_from l.fill (suc l.table-index) l.slot (l.first + length l.below.items) (drop l.table-index l.tables)) ≡ roots_bytes 0 (built_for l.fill l.tables);
  below : l.below.items ++ below_bytes (built_from l.fill (suc l.table-index) l.slot (l.first + length l.below.items) (drop l.table-index l.tables)) ≡ below_bytes (built_for l.fill l.tables);
  slots : l.slot + rows_count (drop l.table-index l.tables) ≡ rows_count l.tables;
}
