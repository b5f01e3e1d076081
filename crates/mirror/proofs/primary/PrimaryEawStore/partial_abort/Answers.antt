use Rattle.std.proofs.Common.{take, ap, sym, ◌∙◌, refl, subst}
use Rattle.std.specs.Prelude.{Some}
use Rattle.std.proofs.lemmas.Result.{err_from_is_err_and}
use Rattle.eaw_face.specs.State.{listed}
use Rattle.eaw_face.specs.Command.{partial_abort}
use Rattle.mirror.specs.Log.{Log}
use Rattle.mirror.proofs.Copies.{copy_of, HasLogged, copies_now, others_kept, logs_after, cut}
use Rattle.mirror.proofs.Mirrored.{refused, done_quiet}
use Rattle.mirror.proofs.primary.PrimaryEawStore.partial_abort.Goals as goal

pub returns-in_err-partial_abort-clause-does : goal.returns-in_err-partial_abort-clause-does
returns-in_err-partial_abort-clause-does g c =
    let s = g.S.EawStore in
    let l = g.L.Link in
    let p = err_from_is_err_and c.from_residual.result c.from_residual.ensures.1 in
    rw (p.1, p.2) (rw (← c.self.view_is) (refused s.tells _ (partial_abort c.args.tid c.args.offset) _ _ (s.view c.self.inside.store) (s.view c.partial_abort.new.self) c.in_err-partial_abort.field-0.0 c.in_err-partial_abort.ensures.does refl (λ ne. ap (λ x. (s.view x).state.bytes) c.in_err-partial_abort.ensures.refused)))

pub invariant_of-self-2 : goal.invariant_of-self-2
invariant_of-self-2 g c =
    let s = g.S.EawStore in
    let d = c.in_ok-partial_abort.ensures.does in
    let old = s.view c.self.inside.store in
    let new = s.view c.partial_abort.new.self in
    let t = c.args.tid in
    let n = c.args.offset in
    let log = c.index_mut.result.now in
    let copy = copy_of s.tells (s.view c.self.inside.store) c.self.inside.logs.items c.self.invariant.1 c.args.tid (d.cause.1.small) d.cause.0 c.from.result c.from.ensures c.index_mut.result.now c.index_mut.ensures.value in
    let has = cut s.tells old new t log.parts copy n d.done.ranges (logs_after d.done) in (
      c.self.invariant.0 ∙ sym d.shape,
      copies_now s.tells (s.view c.self.inside.store) c.self.inside.logs.items c.self.invariant.1 c.args.tid (d.cause.1.small) d.cause.0 c.from.result c.from.ensures c.index_mut.result.now c.index_mut.ensures.value new c.truncate.new.self (ap (λ (l : Log). l.room) c.truncate.ensures) d.shape d.others (others_kept s.tells old new t (Some (take n (listed (old.state.logs t)))) (logs_after d.done))
          (subst (λ (l : Log). HasLogged s.tells old new t l.parts) (sym c.truncate.ensures) has),
    )

pub returns-clause-does : goal.returns-clause-does
returns-clause-does g c =
    let s = g.S.EawStore in
    let l = g.L.Link in
    rw (← c.self.view_is) (done_quiet s.tells _ (partial_abort c.args.tid c.args.offset) _ _ (s.view c.self.inside.store) (s.view c.partial_abort.new.self) tt c.in_ok-partial_abort.ensures.does refl refl refl refl)
