use Rattle.std.proofs.Common.{◌<◌, length, ap, sym, ◌∙◌, refl, subst, arith}
use Rattle.std.specs.Prelude.{Some}
use Rattle.std.proofs.lemmas.Result.{err_from_is_err_and}
use Rattle.eaw_face.specs.State.{listed, edited}
use Rattle.eaw_face.specs.Command.{log_edit}
use Rattle.mirror.specs.Log.{Log}
use Rattle.mirror.proofs.Copies.{copy_of, length_of, HasLogged, copies_now, others_kept, logs_after, remade}
use Rattle.mirror.proofs.Mirrored.{refused, done_quiet}
use Rattle.mirror.proofs.primary.PrimaryEawStore.log_edit.Goals as goal

pub returns-in_err-log_edit-clause-does : goal.returns-in_err-log_edit-clause-does
returns-in_err-log_edit-clause-does g c =
    let s = g.S.EawStore in
    let l = g.L.Link in
    let p = err_from_is_err_and c.from_residual.result c.from_residual.ensures.1 in
    rw (p.1, p.2) (rw (← c.self.view_is) (refused s.tells _ (log_edit c.args.tid c.args.pos c.args.at c.args.bytes.now) _ _ (s.view c.self.inside.store) (s.view c.log_edit.new.self) c.in_err-log_edit.field-0.0 c.in_err-log_edit.ensures.does refl (λ ne. ap (λ x. (s.view x).state.bytes) (c.in_err-log_edit.ensures.refused ne))))

pub edit-requires-clause-pos : goal.edit-requires-clause-pos
edit-requires-clause-pos g c =
    let s = g.S.EawStore in
    let d = c.in_ok-log_edit.ensures.does in
    let old = s.view c.self.inside.store in
    let pos : c.args.pos < length (listed (old.ranges c.args.tid)) = (rw (← c.self.view_is) at c.requires.pos) (record { small = d.cause.1.small; live = d.cause.1.live }) in
    omega (arith, pos, length_of s.tells (s.view c.self.inside.store) c.self.inside.logs.items c.self.invariant.1 c.args.tid (d.cause.1.small) d.cause.0 c.from.result c.from.ensures c.index_mut.result.now c.index_mut.ensures.value)

pub invariant_of-self-2 : goal.invariant_of-self-2
invariant_of-self-2 g c =
    let s = g.S.EawStore in
    let d = c.in_ok-log_edit.ensures.does in
    let old = s.view c.self.inside.store in
    let new = s.view c.log_edit.new.self in
    let t = c.args.tid in
    let log = c.index_mut.result.now in
    let copy = copy_of s.tells (s.view c.self.inside.store) c.self.inside.logs.items c.self.invariant.1 c.args.tid (d.cause.1.small) d.cause.0 c.from.result c.from.ensures c.index_mut.result.now c.index_mut.ensures.value in
    let has = remade s.tells old new t log.parts copy c.args.pos c.args.at c.args.bytes.now ((rw (← c.self.view_is) at c.requires.within) (record { small = d.cause.1.small; live = d.cause.1.live })) d.done.ranges (logs_after d.done) in (
      c.self.invariant.0 ∙ sym d.shape,
      copies_now s.tells (s.view c.self.inside.store) c.self.inside.logs.items c.self.invariant.1 c.args.tid (d.cause.1.small) d.cause.0 c.from.result c.from.ensures c.index_mut.result.now c.index_mut.ensures.value new c.edit.new.self (ap (λ (l : Log). l.room) c.edit.ensures) d.shape d.others (others_kept s.tells old new t (Some (edited c.args.pos c.args.at c.args.bytes.now (listed (old.state.logs t)))) (logs_after d.done))
          (subst (λ (l : Log). HasLogged s.tells old new t l.parts) (sym c.edit.ensures) has),
    )

pub returns-clause-does : goal.returns-clause-does
returns-clause-does g c =
    let s = g.S.EawStore in
    let l = g.L.Link in
    rw (← c.self.view_is) (done_quiet s.tells _ (log_edit c.args.tid c.args.pos c.args.at c.args.bytes.now) _ _ (s.view c.self.inside.store) (s.view c.log_edit.new.self) tt c.in_ok-log_edit.ensures.does refl refl refl refl)
