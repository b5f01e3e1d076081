use Rattle.std.proofs.Common.{◌∙◌, subst, get_or, take}
use Rattle.std.proofs.lemmas.List.Elements.{All-more}
use Rattle.history.specs.Writes.{Write}
use Rattle.snapshot_readers.specs.Rooms.{HasRoom}
use Rattle.snapshot_readers.proofs.records.make_rooms.Goals as goal

pub loop-key-preserved : goal.loop-key-preserved
loop-key-preserved c =
    let now = c.make_room.new.rooms in
    let writes = c.args.writes.now in
    let i = c.loop-key.key-index in
    let item = c.loop-key-item.result in
    record {
      same = c.make_room.ensures.same ∙ c.loop-key.invariant.same;
      room = All-more (λ (write : Write). HasRoom now write.0) writes i item c.loop-key-test.true
          (λ k d lt. c.make_room.ensures.kept (get_or (take i writes) k d).0 (c.loop-key.invariant.room k d lt))
          (subst (λ (write : Write). HasRoom now write.0) c.loop-key-item.is c.in_ok-make_room.ensures.room);
    }
