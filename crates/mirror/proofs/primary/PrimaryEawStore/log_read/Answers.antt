use Rattle.std.proofs.Common.{ap, refl}
use Rattle.eaw_face.specs.Command.{log_read}
use Rattle.mirror.proofs.Mirrored.{passed_on}
use Rattle.mirror.proofs.primary.PrimaryEawStore.log_read.Goals as goal

pub returns-clause-does : goal.returns-clause-does
returns-clause-does g c =
    let s = g.S.EawStore in
    let l = g.L.Link in
    rw (← c.self.view_is) (passed_on s.tells _ (log_read c.args.tid) _ _ (s.view c.self.inside.store) (s.view c.log_read.new.self) c.log_read.result c.log_read.ensures.does refl refl refl refl c.log_read.ensures.refused (λ same. ap (λ x. (s.view x).state.bytes) same))
