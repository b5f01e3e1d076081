use Rattle.std.proofs.Common.{◌≡◌, ◌-◌, length, drop}
use Rattle.history.specs.Rows.{table_of}
use Rattle.snapshot_readers.specs.Rooms.{table_in}
use Rattle.snapshot_readers.proofs.records.Records.of.Given as goal

abbrev pub invariant-loop-i : goal.invariant-loop-i
invariant-loop-i l = table_in l.rooms.entries ≡ table_of (drop (length l.tables - l.i) l.tables)
