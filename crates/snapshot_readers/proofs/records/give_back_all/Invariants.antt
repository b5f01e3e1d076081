use Rattle.std.proofs.Common.{◌≡◌}
use Rattle.snapshot_readers.specs.Rooms.{table_in}
use Rattle.snapshot_readers.proofs.records.give_back_all.Given as goal

abbrev pub invariant-loop-key : goal.invariant-loop-key
invariant-loop-key l = table_in l.rooms.entries ≡ table_in l.fn.rooms.entries
