use Rattle.std.proofs.Common.{◌≡◌, ◌≢◌, ◌+◌, ◌≤◌, ℕ, List, length, Option, None, Result, Ok, Err, subst, sym, ap, rules, arith}
use Rattle.array_shape.specs.declared.shape.Shape.{Shape}
use Rattle.array_shape.specs.Places.{data_len}
use Rattle.eaw_face.specs.Command.{atomic_write}
use Rattle.eaw_face.specs.Does.{Does}
use Rattle.eaw_face.specs.declared.fault.EawFault.{EawFault}
use Rattle.eaw_face.specs.declared.fault.EawFault.TheVariants.{Media}
use Rattle.script_text.specs.Eaw.{does}
use Rattle.script_text.specs.declared.answer.Answer.{Answer}
use Rattle.mars_base.specs.declared.Failed.{Failed}
use Rattle.eaw_script.specs.Performed.{Performed}
use Rattle.eaw_script.proofs.Performing.{atomic_done, atomic_refused}
use Rattle.eaw_script.proofs.writes.atomic.Goals as goal

pub returns-in-Ok : goal.returns-in-Ok
returns-in-Ok g c =
    let s = g.S.EawStore in
    let old = s.view c.args.store.now in
    let inside : c.args.addr + length c.args.bytes.now ≤ data_len old.shape = subst (λ (shape : Shape). c.args.addr + length c.args.bytes.now ≤ data_len shape) c.shape.ensures c.if-not-is_in_data.ensures in
    let free : old.ranges c.args.number ≡ None = search rules in
    let new = s.view c.atomic_write.new.self in
    atomic_done s.tells (s.opens old.shape) old new c.args.number c.args.addr c.args.bytes.now c.requires.alive inside free c.in-Ok.field-0
    (subst (λ (a : ℕ). let r : Result (Unit {0}) EawFault = Ok c.in-Ok.field-0 in Does s.tells (s.opens old.shape) (atomic_write c.args.number a c.args.bytes.now) old new r) c.from.ensures c.in-Ok.ensures.does)

pub returns-in-Err : goal.returns-in-Err
returns-in-Err g c =
    let s = g.S.EawStore in
    let old = s.view c.args.store.now in
    let inside : c.args.addr + length c.args.bytes.now ≤ data_len old.shape = subst (λ (shape : Shape). c.args.addr + length c.args.bytes.now ≤ data_len shape) c.shape.ensures c.if-not-is_in_data.ensures in
    let free : old.ranges c.args.number ≡ None = search rules in
    let new = s.view c.atomic_write.new.self in
    subst (λ (r : Result Answer Failed). Performed s.tells (s.opens old.shape) old new c.args.number (does (atomic_write c.args.number c.args.addr c.args.bytes.now)) r) (sym c.refusal.ensures)
    (atomic_refused s.tells (s.opens old.shape) old new c.args.number c.args.addr c.args.bytes.now c.requires.alive inside free c.in-Err.fault
    (subst (λ (a : ℕ). let r : Result (Unit {0}) EawFault = Err c.in-Err.fault in Does s.tells (s.opens old.shape) (atomic_write c.args.number a c.args.bytes.now) old new r) c.from.ensures c.in-Err.ensures.does)
    (λ other. ap s.view (c.in-Err.ensures.refused other)))
