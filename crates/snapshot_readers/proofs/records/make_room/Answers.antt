use Rattle.std.proofs.Common.{sym, None}
use Rattle.snapshot_readers.proofs.Rooming.{no_room, roomed, stays}
use Rattle.snapshot_readers.proofs.records.make_room.Goals as goal

pub returns-clause-same : goal.returns-clause-same
returns-clause-same c = roomed c.args.rooms.now c.insert.new.self c.args.key (no_room c.args.rooms.now c.args.key (sym c.if-contains_key.ensures)) c.in_ok-insert.ensures.updates

pub returns-clause-kept : goal.returns-clause-kept
returns-clause-kept c = stays c.args.rooms.now c.insert.new.self c.args.key None c.in_ok-insert.ensures.updates
