use Rattle.std.proofs.Common.{length, ap, refl}
use Rattle.eaw_face.specs.Command.{read}
use Rattle.mirror.proofs.Mirrored.{passed_on}
use Rattle.mirror.proofs.primary.PrimaryEawStore.read.Goals as goal

pub returns-clause-does : goal.returns-clause-does
returns-clause-does g c =
    let s = g.S.EawStore in
    let l = g.L.Link in
    rw (← c.self.view_is) (passed_on s.tells _ (read c.args.addr (length c.args.buf.now)) _ _ (s.view c.self.inside.store) (s.view c.read.new.self) c.read.result c.read.ensures.does refl refl refl refl c.read.ensures.refused (λ same. ap (λ x. (s.view x).state.bytes) same))
