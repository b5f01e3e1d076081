use Rattle.std.proofs.Common.{ℕ, List, ◌≡◌, ◌+◌, ◌<◌, ◌≤◌, ◌∙◌, ◌++◌, ap, arith, length, subst}
use Rattle.std.specs.Prelude.{flat_map, vec_capacity}
use Rattle.byteorder.specs.Endian.{little_bytes}
use Rattle.array_shape.specs.declared.shape.Shape.{Shape}
use Rattle.array_shape.specs.NumberSet.{members}
use Rattle.eaw_face.specs.Frame.{mark, group_bytes}
use Rattle.mirror.specs.Sending.{frame_most}
use Rattle.mirror.specs.Groups.{groups_of}
use Rattle.mirror.proofs.Writing.{head_long}
use Rattle.mirror.proofs.Sendable.{shape_same, sent_same, down_same, frame_sent}
use Rattle.mirror.proofs.GroupWriting.{groups_fit, groups_frame, are_listed, few_groups}
use Rattle.mirror.proofs.sender.Sender.send_logs.Goals as goal

pub count_groups-count-requires-clause-logs : goal.count_groups-count-requires-clause-logs
count_groups-count-requires-clause-logs g c = are_listed c.args.self.now.shape c.args.self.now.shape.in_range c.args.logs.now (members c.args.tids) c.requires.logs

pub count_groups-count-requires-clause-few : goal.count_groups-count-requires-clause-few
count_groups-count-requires-clause-few g c = few_groups c.args.self.now.shape c.args.self.now.shape.in_range c.args.logs.now c.args.tids.bits c.requires.logs

pub append_groups-requires-clause-logs : goal.append_groups-requires-clause-logs
append_groups-requires-clause-logs g c = are_listed c.args.self.now.shape c.args.self.now.shape.in_range c.args.logs.now (members c.args.tids) c.requires.logs

pub append_groups-requires-clause-room : goal.append_groups-requires-clause-room
append_groups-requires-clause-room g c =
    let old = c.args.self.now in
    let same = c.self.view_is ∙ c.in-Some.ensures.next.3 in
    let shape = shape_same same in
    let long = ap (λ (l : List ℕ). length l) c.begin_frame.ensures.items in
    let most = subst (λ (s : Shape). frame_most s ≤ vec_capacity c.self.inside.frame) shape c.self.invariant in
    groups_fit old.shape old.shape.in_range c.args.logs.now c.args.tids.bits (length c.begin_frame.new.frame.items) (vec_capacity c.begin_frame.new.frame) c.requires.logs
    (long ∙ head_long c.in-Some.sequence c.count_groups-count.result) (omega (arith, most, c.begin_frame.ensures.room))

pub returns-in-Ok-clause-sends : goal.returns-in-Ok-clause-sends
returns-in-Ok-clause-sends g c =
    let l = g.L.Link in
    let old = c.args.self.now in
    let next = c.in-Some.ensures.next in
    let same = c.self.view_is ∙ next.3 in
    let mid = c.self.inside in
    let groups = groups_of c.args.logs.now (members c.args.tids) in
    let count : mid.sent ≡ old.sent = sent_same same in
    let sequence : c.in-Some.sequence ≡ mid.sent + 1 = omega (arith, next.0, count) in
    let some : 0 < length groups = omega (arith, c.count_groups-count.ensures, c.if-count-eq0.false) in
    frame_sent l.frames l.faults l.tells old.shape groups some old (record { link = mid.link; shape = mid.shape; room = vec_capacity mid.frame; sent = mid.sent; is_down = mid.is_down }) same
    c.send.new.self
    (down_same same ∙ next.2)
    (groups_frame old.shape old.shape.in_range c.args.logs.now c.args.tids.bits (mid.sent + 1) c.requires.logs c.append_groups.ensures.bytes some (omega (arith, next.1, count)))
    c.deref.result.now
    (c.deref.ensures.value ∙ c.append_groups.ensures.items ∙ ap (λ (front : List ℕ). front ++ flat_map group_bytes groups)
    (c.begin_frame.ensures.items ∙ (λ i. mark ++ little_bytes 8 (sequence i) ++ little_bytes 2 (c.count_groups-count.ensures i))))
    c.in-Ok.ensures.sent
    c.in-Ok.ensures.cause.kept
