use Rattle.std.proofs.Common.{refl, ℕ, List, length, sym, ◌∙◌, ap, arith}
use Rattle.mars_base.specs.Bytes.{range}
use Rattle.eaw_device.specs.Laws.{alive_shown}
use Rattle.eaw_face.specs.Command.{read}
use Rattle.eaw_face.specs.declared.fault.EawFault.TheVariants.{Dead}
use Rattle.eaw_device.specs.Opens.{Opens}
use Rattle.eaw_device.specs.Sound.{view_of}
use Rattle.eaw_face.proofs.Refusing.{refused}
use Rattle.eaw_device.proofs.Looks.{read_sound, read_done, read_failed}
use Rattle.eaw_device.proofs.Steady.{steady}
use Rattle.eaw_device.proofs.device.EawEawStore.read.Goals as goal

pub returns-then-self : goal.returns-then-self
returns-then-self g c =
    let m = g.M.Media in
    let s = c.args.self.now in
    record {
      does = refused m.tells (Opens s.shape) (read c.args.addr (length c.args.buf.now)) (view_of (m.view s.media) s.shape s.logs.items s.late s.is_dead) Dead c.if-self.true (λ is. cc) _ refl;
      bytes = λ told. tt;
      costs = record { done = λ exact. tt; most = omega arith };
      steady = tt;
      refused = λ ne. refl;
      unread = λ ne. refl;
    }

pub read-requires-clause-ready : goal.read-requires-clause-ready
read-requires-clause-ready g c = c.args.self.now.sound.ready

pub read-requires-clause-tied : goal.read-requires-clause-tied
read-requires-clause-tied g c = (c.args.self.now.sound.in_order c.if-self.false).tied

pub read-requires-clause-waiting : goal.read-requires-clause-waiting
read-requires-clause-waiting g c = λ told. (c.args.self.now.sound.told told c.if-self.false).sure.waiting

pub read-requires-clause-held : goal.read-requires-clause-held
read-requires-clause-held g c = λ told. (c.args.self.now.sound.told told c.if-self.false).shown

pub invariant_of-self : goal.invariant_of-self
invariant_of-self g c =
    let m = g.M.Media in
    let s = c.args.self.now in
    record { sound = read_sound m.tells (m.view s.media) (m.view c.read.new.media) s.shape s.logs.items s.late s.is_dead s.sound c.if-self.false _ c.in-Ok.ensures.does (λ told. g.met.M.Media.long s.media told ∙ s.sound.sized); depth = c.args.self.now.depth }

pub returns-in-Ok-clause-does : goal.returns-in-Ok-clause-does
returns-in-Ok-clause-does g c =
    let m = g.M.Media in
    let s = c.args.self.now in
    read_done m.tells (m.view s.media) (m.view c.read.new.media) s.shape s.logs.items s.late s.is_dead s.sound c.if-self.false _ c.in-Ok.ensures.does (λ told. g.met.M.Media.long s.media told ∙ s.sound.sized) c.args.addr (length c.args.buf.now) tt c.in-Ok.ensures.does.cause.kept

pub returns-in-Err-clause-does : goal.returns-in-Err-clause-does
returns-in-Err-clause-does g c =
    let m = g.M.Media in
    let s = c.args.self.now in
    read_failed m.tells (m.view s.media) (m.view c.read.new.media) s.shape s.logs.items s.late s.is_dead s.sound c.if-self.false _ c.in-Err.ensures.does (λ told. g.met.M.Media.long s.media told ∙ s.sound.sized) c.args.addr (length c.args.buf.now) c.in-Err.ensures.does.cause.failed

pub returns-in-Ok-clause-bytes : goal.returns-in-Ok-clause-bytes
returns-in-Ok-clause-bytes g c = λ told.
    let s = c.args.self.now in
    c.in-Ok.ensures.bytes told ∙ ap (λ (d : List ℕ). range d c.args.addr (length c.args.buf.now)) (sym (alive_shown s.shape s.late s.is_dead (g.M.Media.view s.media).content.bytes c.if-self.false))

pub returns-in-Ok-clause-refused : goal.returns-in-Ok-clause-refused
returns-in-Ok-clause-refused g c = tt

pub returns-in-Ok-clause-unread : goal.returns-in-Ok-clause-unread
returns-in-Ok-clause-unread g c = tt

pub returns-in-Err-clause-bytes : goal.returns-in-Err-clause-bytes
returns-in-Err-clause-bytes g c = λ told. tt

pub returns-in-Err-clause-refused : goal.returns-in-Err-clause-refused
returns-in-Err-clause-refused g c = λ ne. absurd (ne refl)

pub returns-in-Err-clause-unread : goal.returns-in-Err-clause-unread
returns-in-Err-clause-unread g c = λ ne. absurd (ne refl)

pub returns-in-Ok-clause-steady : goal.returns-in-Ok-clause-steady
returns-in-Ok-clause-steady g c =
    let m = g.M.Media in
    let s = c.args.self.now in
    steady (m.view s.media) (m.view c.read.new.media) s.shape s.logs.items s.late s.is_dead

pub returns-in-Err-clause-steady : goal.returns-in-Err-clause-steady
returns-in-Err-clause-steady g c = tt
