use Rattle.std.proofs.Common.{◌≡◌, ◌+◌, drop}
use Rattle.record_table.specs.AllTables.{place}
use Rattle.record_table.proofs.reading.place_of.Given as goal

abbrev pub invariant-loop-at : goal.invariant-loop-at
invariant-loop-at g l = place l.name l.tables ≡ l.at + place l.name (drop l.at l.tables)
