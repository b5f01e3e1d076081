-- What is written of the work of callers.
use Rattle.std.specs.Prelude.{ℕ, ◌≡◌, Bool, false, if◌then◌else◌, List, [], Result, Ok, Err}
use Rattle.std.specs.Global.{Vec}
use Rattle.mars_base.specs.declared.NoMemory as none
use Rattle.history.specs.declared.answer.Answer.{Answer}
use Rattle.texts.specs.Written.{IsWritten}
use Rattle.script_run.specs.declared.ended.Ended.{Ended}
use Rattle.script_run.specs.declared.ended.Ended.TheVariants.{All, WriteFault, MediaFault, NoMemory}

-- What is written, by how the work ended: the whole text, or a front of it if the sink cut it short. If the medium failed, it is another
-- text, which too may be cut short. If memory ran out, nothing is written.
abbrev pub TellsEnd : Ended → Bool → List ℕ → (whole broken : List ℕ) → Type 0
TellsEnd MediaFault cut text whole broken = IsWritten cut text broken
TellsEnd NoMemory cut text whole broken = (cut ≡ false) × (text ≡ [])
TellsEnd ended cut text whole broken = (ended ≡ (if cut then WriteFault else All)) × IsWritten cut text whole

-- what readers were answered, nothing if memory was short
abbrev pub answers_in : Result (Vec (List Answer)) none.NoMemory → List (List Answer)
answers_in (Ok told) = told.items
answers_in (Err short) = []
