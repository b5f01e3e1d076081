use Rattle.std.proofs.Common.{◌≡◌, ◌<◌, ℕ, Bool, false, List, length, sym, subst, Result, Ok, Err, arith}
use Rattle.std.specs.Prelude.{IfErr, IsErrAnd, Some, None, slice_get}
use Rattle.array_shape.specs.declared.shape.Shape.{Shape}
use Rattle.eaw_face.specs.declared.fault.EawFault.{EawFault}
use Rattle.eaw_face.specs.declared.fault.EawFault.TheVariants.{UnknownTid, LogFull, Media, Dead}
use Rattle.eaw_device.specs.declared.log.Log.{Log}
use Rattle.eaw_device.specs.Steps.{CellsFit, SaysFull, RefusesWrite}
use Rattle.eaw_device.proofs.Doing.{one_log}
use Rattle.eaw_device.proofs.Tables.{found_log}
use Rattle.eaw_device.proofs.device.Eaw.find_room.Goals as goal

pub check_room-requires-clause-kept : goal.check_room-requires-clause-kept
check_room-requires-clause-kept g c =
    let s = c.args.self.now in
    let below : c.args.tid < length s.logs.items = omega (arith, s.sound.many) in
    s.sound.kept c.args.tid c.index.result.now (found_log s.logs.items c.from-at.result c.args.tid c.index.result.now c.from-at.ensures below c.index.ensures)

-- what refuses a log refuses its number
refuses : (shape : Shape) (logs : List Log) (is_dead : Bool) (t addr len : ℕ) (log : Log) → slice_get logs t ≡ Some log → is_dead ≡ false → t < shape.numbers → (fault : EawFault) → SaysFull shape log.held addr len fault → RefusesWrite shape logs is_dead t addr len fault
refuses shape logs is_dead t addr len log there alive small (UnknownTid u) said = absurd said
refuses shape logs is_dead t addr len log there alive small (LogFull g h n) said = (alive, small, record { log = log; there = there; says = said })
refuses shape logs is_dead t addr len log there alive small Media said = absurd said
refuses shape logs is_dead t addr len log there alive small Dead said = absurd said

handed : (P : EawFault → Type 0) (r : Result ℕ EawFault) (fault : EawFault) → IsErrAnd r (λ e. e ≡ fault) → P fault → IfErr r P
handed P (Ok x) fault is p = tt
handed P (Err e) fault is p = subst P (sym is) p

pub returns-in_err-check_room-clause-cause : goal.returns-in_err-check_room-clause-cause
returns-in_err-check_room-clause-cause g c =
    let s = c.args.self.now in
    let below : c.args.tid < length s.logs.items = omega (arith, s.sound.many) in
    let there = found_log s.logs.items c.from-at.result c.args.tid c.index.result.now c.from-at.ensures below c.index.ensures in
    handed (RefusesWrite s.shape s.logs.items s.is_dead c.args.tid c.args.addr c.args.len) c.from_residual.result c.in_err-check_room.field-0.0 c.from_residual.ensures.1
    (refuses s.shape s.logs.items s.is_dead c.args.tid c.args.addr c.args.len c.index.result.now there c.if-self.false (omega arith) c.in_err-check_room.field-0.0 c.in_err-check_room.ensures.full)

pub returns-clause-room : goal.returns-clause-room
returns-clause-room g c = λ log there.
    let s = c.args.self.now in
    let below : c.args.tid < length s.logs.items = omega (arith, s.sound.many) in
    let same = one_log s.logs.items c.args.tid c.index.result.now log (found_log s.logs.items c.from-at.result c.args.tid c.index.result.now c.from-at.ensures below c.index.ensures) there in
    subst (λ (l : Log). CellsFit s.shape l.held c.args.addr c.args.len) same c.in_ok-check_room.ensures.room
