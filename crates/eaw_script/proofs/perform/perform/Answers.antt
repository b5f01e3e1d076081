use Rattle.std.proofs.Common.{◌≡◌, List, ℕ, ap, sym, subst, ◌∙◌}
use Rattle.std.specs.Borrow.{Bor}
use Rattle.eaw_face.specs.Command.{log_write, log_edit, commit, abort, nested_top, partial_abort, atomic_write}
use Rattle.script_text.specs.Eaw.{Raw, does, log_len, held, IsTextOf}
use Rattle.script_text.specs.EawLines.{ShowsCall}
use Rattle.script_text.specs.HexText.{IsBlock, IsHex, hex_of}
use Rattle.script_text.specs.declared.eaw_call.EawCall.{EawCall}
use Rattle.script_text.specs.declared.eaw_call.EawCall.TheVariants.{LogWrite, Atomic, EditLog}
use Rattle.eaw_script.proofs.Performing.{performed_as}
use Rattle.eaw_script.proofs.perform.perform.Goals as goal

-- a command of a call
abbrev Said : ℕ → EawCall → Type 0
Said t call = (raw : Raw) × (text : List ℕ) × ShowsCall t call raw × IsTextOf t raw text

-- the bytes that are to be written
said_log_write : (t addr : ℕ) (hex : Bor (List ℕ)) → Said t (LogWrite addr hex) → IsHex hex.now
said_log_write t addr hex said = let is = subst (λ (r : Raw). IsTextOf t r said.1) said.2.2 said.3 in (said.2.0, is.2, said.2.1)

said_atomic : (t addr : ℕ) (hex : Bor (List ℕ)) → Said t (Atomic addr hex) → IsHex hex.now
said_atomic t addr hex said = let is = subst (λ (r : Raw). IsTextOf t r said.1) said.2.2 said.3 in (said.2.0, is.2, said.2.1)

said_edit_log : (t pos at : ℕ) (hex : Bor (List ℕ)) → Said t (EditLog pos at hex) → IsHex hex.now
said_edit_log t pos at hex said = let is = subst (λ (r : Raw). IsTextOf t r said.1) said.2.2 said.3 in (said.2.0, is.3, said.2.1)

-- a copy of the bytes of a text is a block
copied : (hex read : List ℕ) → IsHex hex → ((bytes : List ℕ) → IsBlock bytes → hex ≡ hex_of bytes → read ≡ bytes) → IsBlock read
copied hex read is says = subst IsBlock (sym (says is.0 is.1 is.2)) is.1

pub bytes_of-requires : goal.bytes_of-requires
bytes_of-requires g c = said_log_write c.args.number c.in-LogWrite.addr c.in-LogWrite.hex (subst (Said c.args.number) c.in-LogWrite.is c.requires.said)

pub log_write-requires-clause-block : goal.log_write-requires-clause-block
log_write-requires-clause-block g c =
    copied c.in-LogWrite.hex.now _ (said_log_write c.args.number c.in-LogWrite.addr c.in-LogWrite.hex (subst (Said c.args.number) c.in-LogWrite.is c.requires.said)) c.bytes_of.ensures

pub returns-in-LogWrite : goal.returns-in-LogWrite
returns-in-LogWrite g c = λ raw text shows is.
    let s = subst (λ (x : EawCall). ShowsCall c.args.number x raw) c.in-LogWrite.is shows in
    let block = (subst (λ (r : Raw). IsTextOf c.args.number r text) s.2 is).2 in
    performed_as (does (log_write c.args.number c.in-LogWrite.addr c.bytes_of.result.now)) raw (s.2 ∙ ap (λ (b : List ℕ). does (log_write c.args.number c.in-LogWrite.addr b)) (sym (c.bytes_of.ensures s.0 block s.1))) c.log_write.ensures

pub bytes_of-requires-in-Atomic : goal.bytes_of-requires-in-Atomic
bytes_of-requires-in-Atomic g c = said_atomic c.args.number c.in-Atomic.addr c.in-Atomic.hex (subst (Said c.args.number) c.in-Atomic.is c.requires.said)

pub atomic-requires-clause-block : goal.atomic-requires-clause-block
atomic-requires-clause-block g c =
    copied c.in-Atomic.hex.now _ (said_atomic c.args.number c.in-Atomic.addr c.in-Atomic.hex (subst (Said c.args.number) c.in-Atomic.is c.requires.said)) c.bytes_of-in-Atomic.ensures

pub returns-in-Atomic : goal.returns-in-Atomic
returns-in-Atomic g c = λ raw text shows is.
    let s = subst (λ (x : EawCall). ShowsCall c.args.number x raw) c.in-Atomic.is shows in
    let block = (subst (λ (r : Raw). IsTextOf c.args.number r text) s.2 is).2 in
    performed_as (does (atomic_write c.args.number c.in-Atomic.addr c.bytes_of-in-Atomic.result.now)) raw (s.2 ∙ ap (λ (b : List ℕ). does (atomic_write c.args.number c.in-Atomic.addr b)) (sym (c.bytes_of-in-Atomic.ensures s.0 block s.1))) c.atomic.ensures

pub bytes_of-requires-in-EditLog : goal.bytes_of-requires-in-EditLog
bytes_of-requires-in-EditLog g c = said_edit_log c.args.number c.in-EditLog.pos c.in-EditLog.at c.in-EditLog.hex (subst (Said c.args.number) c.in-EditLog.is c.requires.said)

pub edit_log-requires-clause-block : goal.edit_log-requires-clause-block
edit_log-requires-clause-block g c =
    copied c.in-EditLog.hex.now _ (said_edit_log c.args.number c.in-EditLog.pos c.in-EditLog.at c.in-EditLog.hex (subst (Said c.args.number) c.in-EditLog.is c.requires.said)) c.bytes_of-in-EditLog.ensures

pub returns-in-EditLog : goal.returns-in-EditLog
returns-in-EditLog g c = λ raw text shows is.
    let s = subst (λ (x : EawCall). ShowsCall c.args.number x raw) c.in-EditLog.is shows in
    let block = (subst (λ (r : Raw). IsTextOf c.args.number r text) s.2 is).3 in
    performed_as (does (log_edit c.args.number c.in-EditLog.pos c.in-EditLog.at c.bytes_of-in-EditLog.result.now)) raw
    (s.2 ∙ ap (λ (b : List ℕ). does (log_edit c.args.number c.in-EditLog.pos c.in-EditLog.at b)) (sym (c.bytes_of-in-EditLog.ensures s.0 block s.1))) c.edit_log.ensures

pub returns-in-Commit : goal.returns-in-Commit
returns-in-Commit g c = λ raw text shows is. performed_as (does (commit c.args.number)) raw (subst (λ (x : EawCall). ShowsCall c.args.number x raw) c.in-Commit.is shows) c.commit.ensures

pub returns-in-Abort : goal.returns-in-Abort
returns-in-Abort g c = λ raw text shows is. performed_as (does (abort c.args.number)) raw (subst (λ (x : EawCall). ShowsCall c.args.number x raw) c.in-Abort.is shows) c.abort.ensures

pub returns-in-Nested : goal.returns-in-Nested
returns-in-Nested g c = λ raw text shows is. performed_as (does (nested_top c.args.number c.in-Nested.offset)) raw (subst (λ (x : EawCall). ShowsCall c.args.number x raw) c.in-Nested.is shows) c.nested.ensures

pub returns-in-Partial : goal.returns-in-Partial
returns-in-Partial g c = λ raw text shows is. performed_as (does (partial_abort c.args.number c.in-Partial.offset)) raw (subst (λ (x : EawCall). ShowsCall c.args.number x raw) c.in-Partial.is shows) c.partial.ensures

pub returns-in-LogLen : goal.returns-in-LogLen
returns-in-LogLen g c = λ raw text shows is. performed_as log_len raw (subst (λ (x : EawCall). ShowsCall c.args.number x raw) c.in-LogLen.is shows) c.log_len.ensures

pub returns-in-Held : goal.returns-in-Held
returns-in-Held g c = λ raw text shows is. performed_as (held c.in-Held.logger) raw (subst (λ (x : EawCall). ShowsCall c.args.number x raw) c.in-Held.is shows) c.held.ensures
