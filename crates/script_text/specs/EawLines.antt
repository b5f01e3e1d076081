-- What a line of raw commands means, and what reads it.
use Rattle.std.specs.Prelude.{ℕ, ◌≡◌, List}
use Rattle.eaw_face.specs.Command.{log_write, log_edit, commit, abort, nested_top, partial_abort, atomic_write, read}
use Rattle.script_text.specs.Line.{IsPassedOver, IsLineOf}
use Rattle.script_text.specs.HexText.{hex_of}
use Rattle.script_text.specs.Eaw.{Raw, does, read_log, log_len, held, IsTextOf}
use Rattle.script_text.specs.declared.eaw_call.EawCall.{EawCall}
use Rattle.script_text.specs.declared.eaw_call.EawCall.TheVariants.{LogWrite, Commit, Abort, Nested, Partial, Atomic, EditLog, ReadLog, Read, LogLen, Held}
use Rattle.script_text.specs.declared.eaw_line.EawLine.{EawLine}
use Rattle.script_text.specs.declared.eaw_line.EawLine.TheVariants.{Nothing, Told, Bad}

-- what a line may mean: nothing, a number's command, or it is bad
pub data Meaning : Type 0 where
  nothing : Meaning
  told : (number : ℕ) (raw : Raw) → Meaning
  bad : Meaning

-- the meaning of a line: it is passed over, it is a number's command, or it is neither
abbrev pub Means : ℕ → List ℕ → Meaning → Type 0
Means numbers line nothing = IsPassedOver line
Means numbers line (told t raw) = IsLineOf (IsTextOf t raw) numbers t line
Means numbers line bad = (IsPassedOver line → ⊥) × ((t : ℕ) (raw : Raw) → IsLineOf (IsTextOf t raw) numbers t line → ⊥)

-- A call shows a command of number t: it has the command's numbers and the text of its bytes.
abbrev pub ShowsCall : ℕ → EawCall → Raw → Type 0
ShowsCall t (LogWrite addr hex) raw = (bytes : List ℕ) × (hex.now ≡ hex_of bytes) × (raw ≡ does (log_write t addr bytes))
ShowsCall t Commit raw = raw ≡ does (commit t)
ShowsCall t Abort raw = raw ≡ does (abort t)
ShowsCall t (Nested offset) raw = raw ≡ does (nested_top t offset)
ShowsCall t (Partial offset) raw = raw ≡ does (partial_abort t offset)
ShowsCall t (Atomic addr hex) raw = (bytes : List ℕ) × (hex.now ≡ hex_of bytes) × (raw ≡ does (atomic_write t addr bytes))
ShowsCall t (EditLog pos at hex) raw = (bytes : List ℕ) × (hex.now ≡ hex_of bytes) × (raw ≡ does (log_edit t pos at bytes))
ShowsCall t (ReadLog pos) raw = raw ≡ read_log pos
ShowsCall t (Read addr len) raw = raw ≡ does (read addr len)
ShowsCall t LogLen raw = raw ≡ log_len
ShowsCall t (Held logger) raw = raw ≡ held logger

-- the same for a number and its call
abbrev pub ShowsTold : ℕ × EawCall → ℕ × Raw → Type 0
ShowsTold call raw = (call.0 ≡ raw.0) × ShowsCall raw.0 call.1 raw.1

-- what was read shows a meaning
abbrev pub ShowsLine : EawLine → Meaning → Type 0
ShowsLine Nothing meaning = meaning ≡ nothing
ShowsLine (Told number call) meaning = (raw : Raw) × ShowsCall number call raw × (meaning ≡ told number raw)
ShowsLine Bad meaning = meaning ≡ bad

-- what was read shows what the line means
abbrev pub SaysEaw : ℕ → List ℕ → EawLine → Type 0
SaysEaw numbers bytes line = (meaning : Meaning) × Means numbers bytes meaning × ShowsLine line meaning
