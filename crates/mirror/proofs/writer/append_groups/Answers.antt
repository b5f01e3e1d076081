use Rattle.std.proofs.Common.{arith, ap, ◌∙◌, subst, length, ◌++◌}
use Rattle.std.specs.Prelude.{All, vec_capacity, flat_map}
use Rattle.std.proofs.lemmas.List.Elements.{All-head, All-tail}
use Rattle.array_shape.specs.NumberSet.{members}
use Rattle.mirror.specs.Log.{Log}
use Rattle.mirror.proofs.Parts.{log_is}
use Rattle.eaw_face.specs.Frame.{group_bytes}
use Rattle.mirror.specs.Sending.{HasBytes, group_of}
use Rattle.mirror.specs.Groups.{IsListed}
use Rattle.mirror.proofs.GroupWriting.{groups_more, group_room}
use Rattle.mirror.proofs.writer.append_groups.Goals as goal

pub append_group-requires-clause-room : goal.append_group-requires-clause-room
append_group-requires-clause-room c =
    let logs = c.args.logs.now in
    let loop = c.loop-tid in
    let are = subst (All (IsListed logs)) c.in-Some.ensures.steps loop.invariant.are in
    let here = All-head (IsListed logs) c.in-Some.tid c.next.new.self are in
    let log = log_is logs c.in-Some.tid c.from.result c.index-logs-from.result here.here c.from.ensures c.index-logs-from.is in
    let room = group_room logs (members c.args.tids) loop.tid-iterator c.args.frame.now.items loop.frame.items loop.invariant.on c.in-Some.tid c.next.new.self (vec_capacity c.args.frame.now) c.in-Some.ensures.steps c.requires.room in
    let same = ap (λ (l : Log). length (flat_map group_bytes (group_of c.in-Some.tid l.parts))) log in
    omega (arith, room, same, loop.invariant.room)

pub loop-tid-preserved : goal.loop-tid-preserved
loop-tid-preserved c =
    let logs = c.args.logs.now in
    let loop = c.loop-tid in
    let are = subst (All (IsListed logs)) c.in-Some.ensures.steps loop.invariant.are in
    let here = All-head (IsListed logs) c.in-Some.tid c.next.new.self are in
    let log = log_is logs c.in-Some.tid c.from.result c.index-logs-from.result here.here c.from.ensures c.index-logs-from.is in
    record {
      on = groups_more logs (members c.args.tids) loop.tid-iterator c.args.frame.now.items loop.frame.items loop.invariant.on c.in-Some.tid c.next.new.self c.append_group.new.frame.items c.in-Some.ensures.steps
          (c.append_group.ensures.items ∙ ap (λ (l : Log). loop.frame.items ++ flat_map group_bytes (group_of c.in-Some.tid l.parts)) log)
          (subst (λ (l : Log). All HasBytes l.parts) log c.append_group.ensures.bytes);
      are = All-tail (IsListed logs) c.in-Some.tid c.next.new.self are;
      room = omega (arith, loop.invariant.room, c.append_group.ensures.room);
    }
