use Rattle.std.proofs.Common.{◌*◌, ◌<◌, ◌++◌, true, length, Err, refl, sym, ◌∙◌, ap, arith}
use Rattle.std.proofs.lemmas.List.{length-append}
use Rattle.array_shape.specs.Parts.{parts_of_write}
use Rattle.array_shape.specs.Logged.{ranges_of}
use Rattle.std.proofs.lemmas.Result.{err_from_is_err_and}
use Rattle.eaw_face.specs.Command as command
use Rattle.eaw_face.specs.State.{listed}
use Rattle.eaw_face.specs.declared.fault.EawFault.TheVariants.{LogFull}
use Rattle.eaw_face.proofs.Refusing.{refused}
use Rattle.memory_eaw.specs.Plain.{IsData, Plain}
use Rattle.memory_eaw.specs.Shown.{plain_of, shown}
use Rattle.mirror.specs.Log.{log_at}
use Rattle.memory_eaw.specs.Steps.{relogged}
use Rattle.mirror.proofs.Parts.{length-ranges_of}
use Rattle.memory_eaw.proofs.Room.{fit_room}
use Rattle.memory_eaw.proofs.Doing.{log_len_is}
use Rattle.memory_eaw.proofs.Commands.{does_written, parts-relogged}
use Rattle.memory_eaw.proofs.eaw.MemoryEawEawStore.log_write.Goals as goal

pub append-requires-clause-room : goal.append-requires-clause-room
append-requires-clause-room c =
    let self = c.args.self.now in
    let room = fit_room self.shape (listed ((shown self).ranges c.args.tid)) (ranges_of (parts_of_write c.args.addr c.args.bytes.now)) c.in_ok-check_room.ensures.fits in
    omega (
      arith,
      room,
      log_len_is (plain_of self) self.sound c.args.tid c.in_ok-check_number.ensures.known.1,
      length-ranges_of (parts_of_write c.args.addr c.args.bytes.now),
      ap (λ (p : Plain). length (log_at p.logs c.args.tid).parts) c.in_ok-call.ensures.done.1,
      ap (λ (p : Plain). p.shape.loggers * p.shape.entries) c.in_ok-call.ensures.done.1,
    )

pub returns-in_err-check_room-clause-does : goal.returns-in_err-check_room-clause-does
returns-in_err-check_room-clause-does c =
    let self = c.args.self.now in
    let full = c.in_err-check_room.ensures.full in
    let p = err_from_is_err_and c.from_residual-in_err-check_room.result c.from_residual-in_err-check_room.ensures.1 in
    rw (p.1, p.2, full.fault_is) (refused true IsData (command.log_write c.args.tid c.args.addr c.args.bytes.now) (shown self) (LogFull full.g full.h full.n)
    (c.in_ok-check_number.ensures.known.0, c.in_ok-check_number.ensures.known.1, full.first) (λ is. cc) (Err (LogFull full.g full.h full.n)) refl)

pub returns-clause-does : goal.returns-clause-does
returns-clause-does c =
    let self = c.args.self.now in
    does_written (plain_of self) self.sound c.args.tid c.in_ok-check_number.ensures.known.1 c.in_ok-check_number.ensures.known.0 (plain_of c.append.new.self) c.append.result c.args.addr c.args.bytes.now c.in_ok-check_room.ensures.fits
    (c.append.ensures.logs ∙ ap (λ (p : Plain). relogged c.args.tid true ((log_at p.logs c.args.tid).parts ++ parts_of_write c.args.addr c.args.bytes.now) p) c.in_ok-call.ensures.done.1)

pub returns-clause-len : goal.returns-clause-len
returns-clause-len c =
    let mid = c.call.new.self in
    let new = c.append.new.self in
    let first = c.in_ok-call.ensures.done.1 in
    let known : c.args.tid < mid.shape.numbers = omega (arith, c.in_ok-check_number.ensures.known.1, ap (λ (p : Plain). p.shape.numbers) first) in
    let there : c.args.tid < length mid.logs.items = omega (arith, mid.sound.numbers) in
    let small : c.args.tid < new.shape.numbers = omega (arith, ap (λ (p : Plain). p.shape.numbers) c.append.ensures.logs) in
    let parts = parts-relogged (plain_of mid) (plain_of new) c.args.tid true _ there c.append.ensures.logs in
    c.append.ensures.len
    ∙ sym (log_len_is (plain_of new) new.sound c.args.tid small ∙ ap length parts ∙ length-append (log_at mid.logs.items c.args.tid).parts (parts_of_write c.args.addr c.args.bytes.now))
