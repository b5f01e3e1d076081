use Rattle.std.proofs.Common.{drop, ap, refl, subst}
use Rattle.std.proofs.lemmas.Result.{err_from_is_err_and}
use Rattle.array_shape.specs.declared.shape.Shape.{Shape}
use Rattle.eaw_face.specs.Command.{commit}
use Rattle.mirror.specs.Sending.{Sends, group_of, sending_of}
use Rattle.mirror.proofs.Copies.{copy_of, sendable_at, bytes_after}
use Rattle.mirror.proofs.Dues.{log_due}
use Rattle.mirror.proofs.Mirrored.{refused, mirrored, tail_data}
use Rattle.mirror.proofs.primary.PrimaryEawStore.commit.Goals as goal

pub returns-in_err-commit-clause-does : goal.returns-in_err-commit-clause-does
returns-in_err-commit-clause-does g c =
    let s = g.S.EawStore in
    let l = g.L.Link in
    let p = err_from_is_err_and c.from_residual.result c.from_residual.ensures.1 in
    rw (p.1, p.2) (rw (← c.self.view_is) (refused s.tells _ (commit c.args.tid) _ _ (s.view c.self.inside.store) (s.view c.commit.new.self) c.in_err-commit.field-0.0 c.in_err-commit.ensures.does refl (λ ne. ap (λ x. (s.view x).state.bytes) (c.in_err-commit.ensures.refused ne))))

pub send_log-requires-clause-log : goal.send_log-requires-clause-log
send_log-requires-clause-log g c =
    let s = g.S.EawStore in
    let d = c.in_ok-commit.ensures.does in
    sendable_at s.tells (s.view c.self.inside.store) c.self.inside.logs.items c.self.invariant.1 c.args.tid (d.cause.1.small) d.cause.0 c.from-at.result c.from-at.ensures c.index.result.now c.index.ensures c.self.inside.sender.shape c.self.invariant.0 (g.met.S.EawStore.placed c.self.inside.store c.args.tid)

pub returns-clause-does : goal.returns-clause-does
returns-clause-does g c =
    let s = g.S.EawStore in
    let l = g.L.Link in
    let d = c.in_ok-commit.ensures.does in
    let old = s.view c.self.inside.store in
    let new = s.view c.commit.new.self in
    let t = c.args.tid in
    let log = c.index.result.now in
    let copy = copy_of s.tells (s.view c.self.inside.store) c.self.inside.logs.items c.self.invariant.1 c.args.tid (d.cause.1.small) d.cause.0 c.from-at.result c.from-at.ensures c.index.result.now c.index.ensures in
    let sender = c.self.inside.sender in
    rw (← c.self.view_is) (mirrored s.tells _ (commit c.args.tid) (sending_of l.tells l.frames l.faults sender) (sending_of l.tells l.frames l.faults c.send_log.new.self) old new tt (group_of t (drop 0 log.parts)) d (record { mirrors = refl; told = refl }) refl
    (subst (λ (sh : Shape). Sends l.tells sh (group_of t (drop 0 log.parts)) (sending_of l.tells l.frames l.faults sender) (sending_of l.tells l.frames l.faults c.send_log.new.self)) c.self.invariant.0 c.send_log.ensures.sends)
    (log_due s.tells old t log.parts copy)
    (tail_data s.tells old new t 0 log.parts (bytes_after d.done) copy.parts_are))
