use Rattle.std.proofs.Common.{◌≤◌, length, take, drop, ap, sym, ◌∙◌, refl, subst, arith}
use Rattle.std.specs.Prelude.{Some}
use Rattle.std.proofs.lemmas.Result.{err_from_is_err_and}
use Rattle.array_shape.specs.declared.shape.Shape.{Shape}
use Rattle.eaw_face.specs.State.{listed}
use Rattle.eaw_face.specs.Command.{nested_top}
use Rattle.mirror.specs.Log.{Log}
use Rattle.mirror.specs.Sending.{Sends, group_of, sending_of}
use Rattle.mirror.proofs.Copies.{copy_of, sendable_at, length_of, HasLogged, copies_now, others_kept, logs_after, bytes_after, cut}
use Rattle.mirror.proofs.Dues.{tail_due}
use Rattle.mirror.proofs.Mirrored.{refused, mirrored, tail_data}
use Rattle.mirror.proofs.primary.PrimaryEawStore.nested_top.Goals as goal

pub returns-in_err-nested_top-clause-does : goal.returns-in_err-nested_top-clause-does
returns-in_err-nested_top-clause-does g c =
    let s = g.S.EawStore in
    let l = g.L.Link in
    let p = err_from_is_err_and c.from_residual.result c.from_residual.ensures.1 in
    rw (p.1, p.2) (rw (← c.self.view_is) (refused s.tells _ (nested_top c.args.tid c.args.offset) _ _ (s.view c.self.inside.store) (s.view c.nested_top.new.self) c.in_err-nested_top.field-0.0 c.in_err-nested_top.ensures.does refl (λ ne. ap (λ x. (s.view x).state.bytes) (c.in_err-nested_top.ensures.refused ne))))

pub send_log-requires-clause-log : goal.send_log-requires-clause-log
send_log-requires-clause-log g c =
    let s = g.S.EawStore in
    let d = c.in_ok-nested_top.ensures.does in
    sendable_at s.tells (s.view c.self.inside.store) c.self.inside.logs.items c.self.invariant.1 c.args.tid (d.cause.1.small) d.cause.0 c.from-at.result c.from-at.ensures c.index.result.now c.index.ensures c.self.inside.sender.shape c.self.invariant.0 (g.met.S.EawStore.placed c.self.inside.store c.args.tid)

pub send_log-requires-clause-offset : goal.send_log-requires-clause-offset
send_log-requires-clause-offset g c =
    let s = g.S.EawStore in
    let d = c.in_ok-nested_top.ensures.does in
    let old = s.view c.self.inside.store in
    let most : c.args.offset ≤ length (listed (old.ranges c.args.tid)) = rw (← c.self.view_is) at c.requires in
    omega (arith, most, length_of s.tells (s.view c.self.inside.store) c.self.inside.logs.items c.self.invariant.1 c.args.tid (d.cause.1.small) d.cause.0 c.from-at.result c.from-at.ensures c.index.result.now c.index.ensures)

pub invariant_of-self-2 : goal.invariant_of-self-2
invariant_of-self-2 g c =
    let s = g.S.EawStore in
    let d = c.in_ok-nested_top.ensures.does in
    let old = s.view c.self.inside.store in
    let new = s.view c.nested_top.new.self in
    let t = c.args.tid in
    let n = c.args.offset in
    let log = c.index_mut.result.now in
    let copy = copy_of s.tells (s.view c.self.inside.store) c.self.inside.logs.items c.self.invariant.1 c.args.tid (d.cause.1.small) d.cause.0 c.from-at.result c.from-at.ensures c.index_mut.result.now c.index_mut.ensures.value in
    let has = cut s.tells old new t log.parts copy n d.done.ranges (logs_after d.done) in (
      c.send_log.ensures.shape ∙ c.self.invariant.0 ∙ sym d.shape,
      copies_now s.tells (s.view c.self.inside.store) c.self.inside.logs.items c.self.invariant.1 c.args.tid (d.cause.1.small) d.cause.0 c.from-at.result c.from-at.ensures c.index_mut.result.now c.index_mut.ensures.value new c.truncate.new.self (ap (λ (l : Log). l.room) c.truncate.ensures) d.shape d.others (others_kept s.tells old new t (Some (take n (listed (old.state.logs t)))) (logs_after d.done))
          (subst (λ (l : Log). HasLogged s.tells old new t l.parts) (sym c.truncate.ensures) has),
    )

pub returns-clause-does : goal.returns-clause-does
returns-clause-does g c =
    let s = g.S.EawStore in
    let l = g.L.Link in
    let d = c.in_ok-nested_top.ensures.does in
    let old = s.view c.self.inside.store in
    let new = s.view c.nested_top.new.self in
    let t = c.args.tid in
    let log = c.index.result.now in
    let copy = copy_of s.tells (s.view c.self.inside.store) c.self.inside.logs.items c.self.invariant.1 c.args.tid (d.cause.1.small) d.cause.0 c.from-at.result c.from-at.ensures c.index.result.now c.index.ensures in
    let sender = c.self.inside.sender in
    rw (← c.self.view_is) (mirrored s.tells _ (nested_top c.args.tid c.args.offset) (sending_of l.tells l.frames l.faults sender) (sending_of l.tells l.frames l.faults c.send_log.new.self) old new tt (group_of t (drop c.args.offset log.parts)) d (record { mirrors = refl; told = refl }) refl
    (subst (λ (sh : Shape). Sends l.tells sh (group_of t (drop c.args.offset log.parts)) (sending_of l.tells l.frames l.faults sender) (sending_of l.tells l.frames l.faults c.send_log.new.self)) c.self.invariant.0 c.send_log.ensures.sends)
    (tail_due s.tells old t log.parts copy c.args.offset)
    (tail_data s.tells old new t c.args.offset log.parts (bytes_after d.done) copy.parts_are))
