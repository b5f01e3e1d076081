use Rattle.std.proofs.Common.{◌≡◌, take}
use Rattle.snapshot_readers.specs.Rooms.{table_in, HaveRoom}
use Rattle.snapshot_readers.proofs.records.make_rooms.Given as goal

abbrev pub invariant-loop-key : goal.invariant-loop-key
invariant-loop-key l = record {
  same : table_in l.rooms.entries ≡ table_in l.fn.rooms.entries;
  room : HaveRoom l.rooms (take l.key-index l.writes);
}
