use Rattle.std.proofs.Common.{◌≡◌, take}
use Rattle.history.specs.Writes.{all_written}
use Rattle.snapshot_readers.specs.Rooms.{table_in, HaveRoom}
use Rattle.snapshot_readers.proofs.records.set_all.Given as goal

abbrev pub invariant-loop-key : goal.invariant-loop-key
invariant-loop-key l = record {
  set : table_in l.rooms.entries ≡ all_written (table_in l.fn.rooms.entries) (take l.key-index l.writes);
  room : HaveRoom l.rooms l.writes;
}
