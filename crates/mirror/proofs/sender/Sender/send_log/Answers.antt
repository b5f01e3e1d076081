use Rattle.std.proofs.Common.{ℕ, List, ◌≡◌, ◌+◌, ◌<◌, ◌≤◌, ◌∙◌, ◌++◌, ap, arith, drop, length, refl, subst}
use Rattle.std.specs.Prelude.{flat_map, vec_capacity}
use Rattle.std.proofs.lemmas.List.{length-drop}
use Rattle.byteorder.specs.Endian.{little_bytes}
use Rattle.eaw_face.specs.Frame.{mark, group_bytes}
use Rattle.array_shape.specs.declared.shape.Shape.{Shape}
use Rattle.mirror.specs.Sending.{group_of, frame_most}
use Rattle.mirror.proofs.Writing.{head_long, one_group_said}
use Rattle.mirror.proofs.Sendable.{shape_same, sent_same, down_same, sendable_drop, short_parts, parts_fit, good_frame, some_group, none_left, frame_sent, frame_failed}
use Rattle.mirror.proofs.GroupWriting.{group_fits}
use Rattle.mirror.proofs.sender.Sender.send_log.Goals as goal

pub returns-in_default-clause-sends : goal.returns-in_default-clause-sends
returns-in_default-clause-sends g c =
    let l = g.L.Link in
    let old = c.args.self.now in
    let parts = c.args.log.now.parts in
    let left = length-drop c.args.offset parts in
    let none = c.in_default.ensures.none refl in
    none_left l.frames l.faults l.tells old.shape (group_of c.args.number (drop c.args.offset parts)) (some_group c.args.number (drop c.args.offset parts) (omega (arith, c.len.ensures, c.if-len-offset.false, c.requires.offset, left))) old c.next_sequence.new.self none.0 none.1

pub append_group-requires-clause-short : goal.append_group-requires-clause-short
append_group-requires-clause-short g c = short_parts c.args.self.now.shape c.args.log.now.parts c.requires.log.placed

pub append_group-requires-clause-few : goal.append_group-requires-clause-few
append_group-requires-clause-few g c = let fit = parts_fit c.args.self.now.shape c.args.self.now.shape.in_range c.args.log.now.parts c.requires.log in omega (arith, fit)

pub append_group-requires-clause-room : goal.append_group-requires-clause-room
append_group-requires-clause-room g c =
    let old = c.args.self.now in
    let parts = c.args.log.now.parts in
    let same = c.self.view_is ∙ c.in-Some.ensures.next.3 in
    let shape = shape_same same in
    let long = ap (λ (l : List ℕ). length l) c.begin_frame.ensures.items in
    let most = subst (λ (s : Shape). frame_most s ≤ vec_capacity c.self.inside.frame) shape c.self.invariant in
    group_fits old.shape old.shape.in_range c.args.number (drop c.args.offset parts) (length c.begin_frame.new.frame.items) (vec_capacity c.begin_frame.new.frame) (sendable_drop old.shape c.args.offset parts c.requires.log)
    (long ∙ head_long c.in-Some.sequence 1) (omega (arith, most, c.begin_frame.ensures.room))

pub returns-in-Ok-clause-sends : goal.returns-in-Ok-clause-sends
returns-in-Ok-clause-sends g c =
    let l = g.L.Link in
    let old = c.args.self.now in
    let next = c.in-Some.ensures.next in
    let same = c.self.view_is ∙ next.3 in
    let parts = c.args.log.now.parts in
    let left = length-drop c.args.offset parts in
    let some : 0 < length (drop c.args.offset parts) = omega (arith, c.len.ensures, c.if-len-offset.false, c.requires.offset, left) in
    let mid = c.self.inside in
    let count : mid.sent ≡ old.sent = sent_same same in
    let sequence : c.in-Some.sequence ≡ mid.sent + 1 = omega (arith, next.0, count) in
    frame_sent l.frames l.faults l.tells old.shape (group_of c.args.number (drop c.args.offset parts)) (some_group c.args.number (drop c.args.offset parts) some) old (record { link = mid.link; shape = mid.shape; room = vec_capacity mid.frame; sent = mid.sent; is_down = mid.is_down }) same
    c.send.new.self
    (down_same same ∙ next.2)
    (good_frame old.shape old.shape.in_range c.args.number c.requires.number (mid.sent + 1) (drop c.args.offset parts) some (omega (arith, next.1, count)) (sendable_drop old.shape c.args.offset parts c.requires.log) c.append_group.ensures.bytes)
    c.deref.result.now
    (c.deref.ensures.value ∙ c.append_group.ensures.items ∙ ap (λ (front : List ℕ). front ++ flat_map group_bytes (group_of c.args.number (drop c.args.offset parts)))
    (c.begin_frame.ensures.items ∙ ap (λ (n : ℕ). mark ++ little_bytes 8 n ++ little_bytes 2 1) sequence) ∙ one_group_said c.args.number (drop c.args.offset parts) some (mid.sent + 1))
    c.in-Ok.ensures.sent
    c.in-Ok.ensures.cause.kept

pub returns-in-Err-clause-sends : goal.returns-in-Err-clause-sends
returns-in-Err-clause-sends g c =
    let l = g.L.Link in
    let old = c.args.self.now in
    let next = c.in-Some.ensures.next in
    let same = c.self.view_is ∙ next.3 in
    let parts = c.args.log.now.parts in
    let left = length-drop c.args.offset parts in
    let some : 0 < length (drop c.args.offset parts) = omega (arith, c.len.ensures, c.if-len-offset.false, c.requires.offset, left) in
    let mid = c.self.inside in
    frame_failed l.frames l.faults l.tells old.shape (group_of c.args.number (drop c.args.offset parts)) (some_group c.args.number (drop c.args.offset parts) some) old (record { link = mid.link; shape = mid.shape; room = vec_capacity mid.frame; sent = mid.sent; is_down = mid.is_down }) same
    c.send.new.self c.in-Err.ensures.unsent c.in-Err.ensures.cause.failed c.in-Err.ensures.cause.later
