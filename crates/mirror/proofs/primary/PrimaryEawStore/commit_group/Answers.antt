use Rattle.std.proofs.Common.{List, ap, sym, ◌∙◌, refl, subst}
use Rattle.std.proofs.lemmas.Result.{err_from_is_err_and}
use Rattle.array_shape.specs.declared.shape.Shape.{Shape}
use Rattle.array_shape.specs.NumberSet.{members}
use Rattle.mirror.specs.Log.{Log}
use Rattle.mirror.specs.Sending.{Sends, sending_of}
use Rattle.mirror.specs.Groups.{AreSendable, groups_of}
use Rattle.mirror.proofs.Copies.{logs_after, bytes_after}
use Rattle.mirror.proofs.GroupCopies.{group_sendable, group_within, group_data, group_copies}
use Rattle.eaw_face.specs.Command.{commit_group}
use Rattle.mirror.proofs.Dues.{group_due}
use Rattle.mirror.proofs.Mirrored.{refused, mirrored}
use Rattle.mirror.proofs.primary.PrimaryEawStore.commit_group.Goals as goal

pub returns-in_err-commit_group-clause-does : goal.returns-in_err-commit_group-clause-does
returns-in_err-commit_group-clause-does g c =
    let s = g.S.EawStore in
    let l = g.L.Link in
    let p = err_from_is_err_and c.from_residual.result c.from_residual.ensures.1 in
    rw (p.1, p.2) (rw (← c.self.view_is) (refused s.tells _ (commit_group (members c.args.tids)) _ _ (s.view c.self.inside.store) (s.view c.commit_group.new.self) c.in_err-commit_group.field-0.0 c.in_err-commit_group.ensures.does refl (λ ne. ap (λ x. (s.view x).state.bytes) (c.in_err-commit_group.ensures.refused ne))))

pub send_logs-requires : goal.send_logs-requires
send_logs-requires g c =
    let s = g.S.EawStore in
    let d = c.in_ok-commit_group.ensures.does in
    let old = s.view c.self.inside.store in
    record {
      logs = subst (λ (logs : List Log). AreSendable c.self.inside.sender.shape logs (members c.args.tids)) (sym c.deref.ensures.value)
          (group_sendable s.tells old c.self.inside.logs.items c.self.invariant.1 d.cause.0 c.self.inside.sender.shape c.self.invariant.0 (λ t. g.met.S.EawStore.placed c.self.inside.store t) (members c.args.tids) d.cause.1);
    }

pub free_logs-requires : goal.free_logs-requires
free_logs-requires g c =
    let s = g.S.EawStore in
    let d = c.in_ok-commit_group.ensures.does in
    group_within s.tells (s.view c.self.inside.store) c.self.inside.logs.items c.self.invariant.1 d.cause.0 (members c.args.tids) d.cause.1

pub invariant_of-self-2 : goal.invariant_of-self-2
invariant_of-self-2 g c =
    let s = g.S.EawStore in
    let d = c.in_ok-commit_group.ensures.does in
    let old = s.view c.self.inside.store in
    let new = s.view c.commit_group.new.self in (
      c.send_logs.ensures.shape ∙ c.self.invariant.0 ∙ sym d.shape,
      group_copies s.tells old c.self.inside.logs.items c.self.invariant.1 d.cause.0 new c.free_logs.new.logs.items (members c.args.tids) c.free_logs.ensures.len c.free_logs.ensures.freed d.shape d.done.ranges (logs_after d.done),
    )

pub returns-clause-does : goal.returns-clause-does
returns-clause-does g c =
    let s = g.S.EawStore in
    let l = g.L.Link in
    let d = c.in_ok-commit_group.ensures.does in
    let old = s.view c.self.inside.store in
    let new = s.view c.commit_group.new.self in
    let logs = c.self.inside.logs.items in
    let groups = groups_of logs (members c.args.tids) in
    let sender = c.self.inside.sender in
    rw (← c.self.view_is) (mirrored s.tells _ (commit_group (members c.args.tids)) (sending_of l.tells l.frames l.faults sender) (sending_of l.tells l.frames l.faults c.send_logs.new.self) old new tt groups d (record { mirrors = refl; told = refl }) refl
    (subst (λ (sh : Shape). Sends l.tells sh groups (sending_of l.tells l.frames l.faults sender) (sending_of l.tells l.frames l.faults c.send_logs.new.self)) c.self.invariant.0
    (subst (λ (ls : List Log). Sends l.tells sender.shape (groups_of ls (members c.args.tids)) (sending_of l.tells l.frames l.faults sender) (sending_of l.tells l.frames l.faults c.send_logs.new.self)) c.deref.ensures.value c.send_logs.ensures.sends))
    (group_due logs s.tells old c.self.invariant.1 d.cause.0 (members c.args.tids) d.cause.1)
    (group_data s.tells old logs c.self.invariant.1 d.cause.0 new (members c.args.tids) d.cause.1 (bytes_after d.done)))
