use Rattle.std.proofs.Common.{refl}
use Rattle.std.specs.Prelude.{codes}
use Rattle.eaw_face.specs.Command.{log_write, atomic_write, log_edit}
use Rattle.script_text.specs.Eaw.{does}
use Rattle.script_text.proofs.EawCommands.{write_told, edit_told, no_command}
use Rattle.script_text.proofs.eaw_call.read_eaw_call.Goals as goal

pub returns-in-Some : goal.returns-in-Some
returns-in-Some c t =
    let read = c.in-Some.ensures in
    let bytes = read.0.1 in
    (does (log_write t c.in-Some.addr bytes.0), (bytes.0, bytes.2, refl), (refl, read.0.0, bytes.1, write_told (codes "logwrite ") _ _ c.in-Some.addr bytes read.1))

pub returns-in-Some-read_write : goal.returns-in-Some-read_write
returns-in-Some-read_write c t =
    let read = c.in-Some-read_write.ensures in
    let bytes = read.0.1 in
    (does (atomic_write t c.in-Some-read_write.addr bytes.0), (bytes.0, bytes.2, refl), (refl, read.0.0, bytes.1, write_told (codes "atomic ") _ _ c.in-Some-read_write.addr bytes read.1))

pub returns-in-Some-read_edit : goal.returns-in-Some-read_edit
returns-in-Some-read_edit c t =
    let read = c.in-Some-read_edit.ensures in
    let bytes = read.0.2 in
    let edit = c.in-Some-read_edit in
    (does (log_edit t edit.pos edit.at bytes.0), (bytes.0, bytes.2, refl), (refl, read.0.0, read.0.1, bytes.1, edit_told _ _ edit.pos edit.at bytes read.1))

pub returns-in_err-logger : goal.returns-in_err-logger
returns-in_err-logger c = rw c.from_residual.ensures (no_command c.args.bytes.now (record {
  commit = c.if-is_text.ensures;
  abort = c.if-is_text-2.ensures;
  log_len = c.if-is_text-3.ensures;
  log_write = c.in_default.ensures;
  atomic = c.in_default-read_write.ensures;
  edit_log = c.in_default-read_edit.ensures;
  nested = c.in_default-read_u32_after.ensures;
  partial = c.in_default-read_u32_after-2.ensures;
  read_log = c.in_default-read_u32_after-3.ensures;
  read = c.in_default-read_range.ensures;
  held = c.in_err-logger.ensures;
}))
