use Rattle.std.proofs.Common.{◌≡◌, List, ◌++◌, length, drop}
use Rattle.std.specs.List.{zip}
use Rattle.history.specs.Writes.{Row}
use Rattle.record_table.specs.AllTables.{by_name}
use Rattle.record_table.proofs.reading.with_names.Given as goal

-- the tables behind those that are left were put in
abbrev pub invariant-loop-rows : goal.invariant-loop-rows
invariant-loop-rows g l = (done : List (List Row)) × (l.fn.tables.items ≡ l.left.items ++ done) × (l.named.items ≡ by_name (zip (drop (length l.left.items) l.names) done)) × (l.names ≡ l.fn.names)

abbrev pub decreases-loop-rows : goal.decreases-loop-rows
decreases-loop-rows g l = length l.left.items
