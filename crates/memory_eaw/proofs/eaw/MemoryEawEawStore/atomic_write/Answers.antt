use Rattle.std.proofs.Common.{ℕ, List, true, Err, refl, ◌∙◌, ap, subst}
use Rattle.mars_base.specs.Bytes.{put}
use Rattle.std.specs.Prelude.{None}
use Rattle.array_shape.specs.Parts.{parts_of_write}
use Rattle.array_shape.specs.Logged.{ranges_of}
use Rattle.eaw_face.specs.State.{listed}
use Rattle.eaw_face.specs.Causes.{fit}
use Rattle.memory_eaw.specs.Plain.{IsData, Plain}
use Rattle.memory_eaw.specs.Shown.{plain_of, shown}
use Rattle.memory_eaw.proofs.Commands.{does_put}
use Rattle.std.proofs.lemmas.Result.{err_from_is_err_and}
use Rattle.std.specs.Prelude.{Some}
use Rattle.eaw_face.specs.Command.{atomic_write}
use Rattle.eaw_face.specs.declared.fault.EawFault.TheVariants.{LogFull}
use Rattle.eaw_face.proofs.Refusing.{refused}
use Rattle.memory_eaw.proofs.eaw.MemoryEawEawStore.atomic_write.Goals as goal

pub returns-in_err-check_room-clause-does : goal.returns-in_err-check_room-clause-does
returns-in_err-check_room-clause-does c =
    let self = c.args.self.now in
    let full = c.in_err-check_room.ensures.full in
    let p = err_from_is_err_and c.from_residual-in_err-check_room.result c.from_residual-in_err-check_room.ensures.1 in
    rw (p.1, p.2, full.fault_is) (refused true IsData (atomic_write c.args.tid c.args.addr c.args.bytes.now) (shown self) (LogFull full.g full.h full.n)
    (c.in_ok-check_alive.ensures.alive, tt, subst (λ (held : List (ℕ × ℕ)). fit (shown self).shape held (ranges_of (parts_of_write c.args.addr c.args.bytes.now)) (Some (full.g, full.h, full.n))) (ap listed c.requires.free) full.first)
    (λ is. cc) (Err (LogFull full.g full.h full.n)) refl)

pub returns-clause-does : goal.returns-clause-does
returns-clause-does c =
    let self = c.args.self.now in
    does_put (plain_of self) (plain_of c.put.new.self) c.args.tid c.args.addr c.args.bytes.now c.in_ok-check_alive.ensures.alive
    (subst (λ (held : List (ℕ × ℕ)). fit (shown self).shape held (ranges_of (parts_of_write c.args.addr c.args.bytes.now)) None) (ap listed c.requires.free) c.in_ok-check_room.ensures.fits)
    (c.put.ensures ∙ ap with c.in_ok-change.ensures.done.1)
  where
    with : Plain → Plain
    with p = record p { bytes = put p.bytes c.args.addr c.args.bytes.now }
