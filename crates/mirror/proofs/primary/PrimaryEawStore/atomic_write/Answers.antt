use Rattle.std.proofs.Common.{ℕ, List, ◌≡◌, ◌+◌, ◌<◌, ◌≤◌, ◌++◌, length, ap, sym, ◌∙◌, refl, subst}
use Rattle.std.specs.Prelude.{None}
use Rattle.std.proofs.lemmas.Result.{err_from_is_err_and}
use Rattle.array_shape.specs.declared.shape.Shape.{Shape}
use Rattle.array_shape.specs.Places.{data_len}
use Rattle.array_shape.specs.Parts.{parts_of_write}
use Rattle.array_shape.specs.Logged.{Part, ranges_of}
use Rattle.eaw_face.specs.State.{listed}
use Rattle.eaw_face.specs.Causes.{fit}
use Rattle.mirror.specs.Log.{Log}
use Rattle.mirror.specs.Sending.{Sends, IsSendable, group_of, sending_of}
use Rattle.mirror.proofs.Copies.{copy_of, lt, memory_for, bytes_after}
use Rattle.mirror.proofs.Atomic.{free_parts, write_sendable, read_back, write_data}
use Rattle.eaw_face.specs.Command.{atomic_write}
use Rattle.mirror.proofs.Dues.{write_due}
use Rattle.mirror.proofs.Mirrored.{refused, mirrored}
use Rattle.mirror.proofs.primary.PrimaryEawStore.atomic_write.Goals as goal

pub returns-in_err-atomic_write-clause-does : goal.returns-in_err-atomic_write-clause-does
returns-in_err-atomic_write-clause-does g c =
    let s = g.S.EawStore in
    let l = g.L.Link in
    let p = err_from_is_err_and c.from_residual.result c.from_residual.ensures.1 in
    rw (p.1, p.2) (rw (← c.self.view_is) (refused s.tells _ (atomic_write c.args.tid c.args.addr c.args.bytes.now) _ _ (s.view c.self.inside.store) (s.view c.atomic_write.new.self) c.in_err-atomic_write.field-0.0 c.in_err-atomic_write.ensures.does refl (λ ne. ap (λ x. (s.view x).state.bytes) (c.in_err-atomic_write.ensures.refused ne))))

pub append-requires-clause-room : goal.append-requires-clause-room
append-requires-clause-room g c =
    let s = g.S.EawStore in
    let d = c.in_ok-atomic_write.ensures.does in
    let old = s.view c.self.inside.store in
    let t = c.args.tid in
    let small : t < old.shape.numbers = rw (← c.self.view_is) at c.requires.tid in
    let free : old.ranges t ≡ None = rw (← c.self.view_is) at c.requires.free in
    let more = parts_of_write c.args.addr c.args.bytes.now in
    memory_for s.tells old c.self.inside.logs.items c.self.invariant.1 t small d.cause.0 c.from-at.result c.from-at.ensures c.index_mut.result.now c.index_mut.ensures.value (g.met.S.EawStore.shaped c.self.inside.store) more (subst (λ (rs : List (ℕ × ℕ)). fit old.shape rs (ranges_of more) None) (sym (ap listed free)) d.cause.2)

pub send_log-requires-clause-log : goal.send_log-requires-clause-log
send_log-requires-clause-log g c =
    let s = g.S.EawStore in
    let d = c.in_ok-atomic_write.ensures.does in
    let old = s.view c.self.inside.store in
    let t = c.args.tid in
    let small : t < old.shape.numbers = rw (← c.self.view_is) at c.requires.tid in
    let free : old.ranges t ≡ None = rw (← c.self.view_is) at c.requires.free in
    let inside : c.args.addr + length c.args.bytes.now ≤ data_len old.shape = rw (← c.self.view_is) at c.requires.inside in
    let more = parts_of_write c.args.addr c.args.bytes.now in
    let none = free_parts s.tells old t c.index_mut.result.now.parts (copy_of s.tells old c.self.inside.logs.items c.self.invariant.1 t small d.cause.0 c.from-at.result c.from-at.ensures c.index_mut.result.now c.index_mut.ensures.value) free in
    let log = read_back c.self.inside.logs.items t c.from-at.result c.append.new.self c.index.result.now (lt s.tells old c.self.inside.logs.items c.self.invariant.1 t small d.cause.0 c.from-at.result c.from-at.ensures c.index_mut.result.now c.index_mut.ensures.value) c.from-at.ensures c.index.ensures in
    let parts : c.index.result.now.parts ≡ more = ap (λ (x : Log). x.parts) (log ∙ c.append.ensures) ∙ ap (λ (ps : List Part). ps ++ more) none in
    subst (λ (ps : List Part). IsSendable c.self.inside.sender.shape ps) (sym parts)
    (subst (λ (sh : Shape). IsSendable sh more) (sym c.self.invariant.0) (write_sendable old.shape c.args.addr c.args.bytes.now inside d.cause.2))

pub returns-clause-does : goal.returns-clause-does
returns-clause-does g c =
    let s = g.S.EawStore in
    let l = g.L.Link in
    let d = c.in_ok-atomic_write.ensures.does in
    let old = s.view c.self.inside.store in
    let new = s.view c.atomic_write.new.self in
    let t = c.args.tid in
    let small : t < old.shape.numbers = rw (← c.self.view_is) at c.requires.tid in
    let free : old.ranges t ≡ None = rw (← c.self.view_is) at c.requires.free in
    let inside : c.args.addr + length c.args.bytes.now ≤ data_len old.shape = rw (← c.self.view_is) at c.requires.inside in
    let more = parts_of_write c.args.addr c.args.bytes.now in
    let none = free_parts s.tells old t c.index_mut.result.now.parts (copy_of s.tells old c.self.inside.logs.items c.self.invariant.1 t small d.cause.0 c.from-at.result c.from-at.ensures c.index_mut.result.now c.index_mut.ensures.value) free in
    let log = read_back c.self.inside.logs.items t c.from-at.result c.append.new.self c.index.result.now (lt s.tells old c.self.inside.logs.items c.self.invariant.1 t small d.cause.0 c.from-at.result c.from-at.ensures c.index_mut.result.now c.index_mut.ensures.value) c.from-at.ensures c.index.ensures in
    let parts : c.index.result.now.parts ≡ more = ap (λ (x : Log). x.parts) (log ∙ c.append.ensures) ∙ ap (λ (ps : List Part). ps ++ more) none in
    let sender = c.self.inside.sender in
    rw (← c.self.view_is) (mirrored s.tells _ (atomic_write c.args.tid c.args.addr c.args.bytes.now) (sending_of l.tells l.frames l.faults sender) (sending_of l.tells l.frames l.faults c.send_log.new.self) old new tt (group_of t c.index.result.now.parts) d (record { mirrors = refl; told = refl }) refl
    (subst (λ (sh : Shape). Sends l.tells sh (group_of t c.index.result.now.parts) (sending_of l.tells l.frames l.faults sender) (sending_of l.tells l.frames l.faults c.send_log.new.self)) c.self.invariant.0 c.send_log.ensures.sends)
    (write_due s.tells old t c.args.addr c.args.bytes.now c.index.result.now.parts parts)
    (write_data s.tells old new t c.args.addr c.args.bytes.now c.index.result.now.parts parts inside (g.met.S.EawStore.long c.self.inside.store) (bytes_after d.done)))
