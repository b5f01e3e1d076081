use Rattle.std.proofs.Common.{arith, ap, length}
use Rattle.std.specs.Prelude.{vec_capacity, ℕ, List}
use Rattle.mirror.proofs.Writing.{part_room, writes_next}
use Rattle.mirror.proofs.writer.append_parts.Goals as goal

pub append_part-requires-clause-room : goal.append_part-requires-clause-room
append_part-requires-clause-room c =
    let loop = c.loop-pos in
    let room = part_room c.args.log.now.parts c.args.offset loop.pos c.args.frame.now.items loop.frame.items loop.invariant.on (vec_capacity c.args.frame.now) (omega (arith, c.loop-pos-test.true, c.len-pos-end.ensures)) c.requires.room in
    let same = ap (λ (l : List ℕ). length l) c.part-addr.ensures.bytes in
    omega (arith, room, same, loop.invariant.room)

pub loop-pos-preserved : goal.loop-pos-preserved
loop-pos-preserved c =
    let loop = c.loop-pos in
    let part = c.part-addr in
    record {
      on = writes_next c.args.log.now.parts c.args.offset loop.pos c.args.frame.now.items loop.frame.items loop.invariant.on c.append_part.new.frame.items (part.result.0, part.result.1.now)
          (omega (arith, c.loop-pos-test.true, c.len-pos-end.ensures)) (λ i. (part.ensures.addr i, part.ensures.bytes i)) c.append_part.ensures.bytes c.append_part.ensures.items;
      room = omega (arith, loop.invariant.room, c.append_part.ensures.room);
    }
