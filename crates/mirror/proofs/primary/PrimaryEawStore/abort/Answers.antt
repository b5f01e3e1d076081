use Rattle.std.proofs.Common.{ap, refl}
use Rattle.std.proofs.lemmas.Result.{err_from_is_err_and}
use Rattle.eaw_face.specs.Command.{abort}
use Rattle.mirror.proofs.Mirrored.{refused, done_quiet}
use Rattle.mirror.proofs.primary.PrimaryEawStore.abort.Goals as goal

pub returns-in_err-abort-clause-does : goal.returns-in_err-abort-clause-does
returns-in_err-abort-clause-does g c =
    let s = g.S.EawStore in
    let l = g.L.Link in
    let p = err_from_is_err_and c.from_residual.result c.from_residual.ensures.1 in
    rw (p.1, p.2) (rw (← c.self.view_is) (refused s.tells _ (abort c.args.tid) _ _ (s.view c.self.inside.store) (s.view c.abort.new.self) c.in_err-abort.field-0.0 c.in_err-abort.ensures.does refl (λ ne. ap (λ x. (s.view x).state.bytes) c.in_err-abort.ensures.refused)))

pub returns-clause-does : goal.returns-clause-does
returns-clause-does g c =
    let s = g.S.EawStore in
    let l = g.L.Link in
    rw (← c.self.view_is) (done_quiet s.tells _ (abort c.args.tid) _ _ (s.view c.self.inside.store) (s.view c.abort.new.self) tt c.in_ok-abort.ensures.does refl refl refl refl)
