use Rattle.std.proofs.Common.{◌≡◌, ◌+◌, ◌*◌, ◌≤◌, ◌^◌, drop, length}
use Rattle.table_builder.proofs.PageCounts.{below_count}
use Rattle.table_builder.proofs.counting.pages_needed.Given as goal

abbrev pub invariant-loop-table : goal.invariant-loop-table
invariant-loop-table l = record {
  count : l.pages + below_count l.fill (drop l.table-index l.tables) ≡ 1 + length l.tables + below_count l.fill l.tables;
  few : l.pages ≤ 9 + 2 ^ 60 * l.table-index;
}
