use Rattle.std.proofs.Common.{◌++◌, ap, sym, ◌∙◌, refl, subst}
use Rattle.std.specs.Prelude.{Some}
use Rattle.std.proofs.lemmas.Result.{err_from_is_err_and}
use Rattle.array_shape.specs.Parts.{parts_of_write}
use Rattle.eaw_face.specs.State.{listed}
use Rattle.eaw_face.specs.Command.{log_write}
use Rattle.mirror.specs.Log.{Log}
use Rattle.mirror.proofs.Copies.{copy_of, memory_for, HasLogged, copies_now, others_kept, logs_after, grown}
use Rattle.mirror.proofs.Mirrored.{refused, done_quiet}
use Rattle.mirror.proofs.primary.PrimaryEawStore.log_write.Goals as goal

pub returns-in_err-len-clause-does : goal.returns-in_err-len-clause-does
returns-in_err-len-clause-does g c =
    let s = g.S.EawStore in
    let l = g.L.Link in
    let p = err_from_is_err_and c.from_residual.result c.from_residual.ensures.1 in
    rw (p.1, p.2) (rw (← c.self.view_is) (refused s.tells _ (log_write c.args.tid c.args.addr c.args.bytes.now) _ _ (s.view c.self.inside.store) (s.view c.log_write.new.self) c.in_err-len.field-0.0 c.in_err-len.ensures.does refl (λ ne. ap (λ x. (s.view x).state.bytes) (c.in_err-len.ensures.refused ne))))

pub append-requires-clause-room : goal.append-requires-clause-room
append-requires-clause-room g c =
    let s = g.S.EawStore in
    let d = c.in_ok-len.ensures.does in
    memory_for s.tells (s.view c.self.inside.store) c.self.inside.logs.items c.self.invariant.1 c.args.tid (d.cause.1) d.cause.0 c.from.result c.from.ensures c.index_mut.result.now c.index_mut.ensures.value (g.met.S.EawStore.shaped c.self.inside.store) (parts_of_write c.args.addr c.args.bytes.now) d.cause.2

pub invariant_of-self-2 : goal.invariant_of-self-2
invariant_of-self-2 g c =
    let s = g.S.EawStore in
    let d = c.in_ok-len.ensures.does in
    let old = s.view c.self.inside.store in
    let new = s.view c.log_write.new.self in
    let t = c.args.tid in
    let more = parts_of_write c.args.addr c.args.bytes.now in
    let log = c.index_mut.result.now in
    let copy = copy_of s.tells (s.view c.self.inside.store) c.self.inside.logs.items c.self.invariant.1 c.args.tid (d.cause.1) d.cause.0 c.from.result c.from.ensures c.index_mut.result.now c.index_mut.ensures.value in
    let has = grown s.tells old new t log.parts copy more d.cause.2 d.done.ranges (logs_after d.done) in (
      c.self.invariant.0 ∙ sym d.shape,
      copies_now s.tells (s.view c.self.inside.store) c.self.inside.logs.items c.self.invariant.1 c.args.tid (d.cause.1) d.cause.0 c.from.result c.from.ensures c.index_mut.result.now c.index_mut.ensures.value new c.append.new.self (ap (λ (l : Log). l.room) c.append.ensures) d.shape d.others (others_kept s.tells old new t (Some (listed (old.state.logs t) ++ more)) (logs_after d.done))
          (subst (λ (l : Log). HasLogged s.tells old new t l.parts) (sym c.append.ensures) has),
    )

pub returns-clause-does : goal.returns-clause-does
returns-clause-does g c =
    let s = g.S.EawStore in
    let l = g.L.Link in
    rw (← c.self.view_is) (done_quiet s.tells _ (log_write c.args.tid c.args.addr c.args.bytes.now) _ _ (s.view c.self.inside.store) (s.view c.log_write.new.self) c.in_ok-len.len c.in_ok-len.ensures.does refl refl refl refl)
