-- The lines of a script with readers beside its callers.
use Rattle.std.specs.Prelude.{ℕ, ◌≡◌, List, ◌∷◌}
use Rattle.history.specs.declared.call.Call.{Call}
use Rattle.history.specs.declared.call.Call.TheVariants.{Table}
use Rattle.history.specs.declared.call.TableCall.TheVariants.{Get}
use Rattle.history.specs.declared.key.Key.{Key}
use Rattle.script_text.specs.Line.{IsCallText, IsLineOf, IsPassedOver}
use Rattle.script_text.specs.declared.joint_line.JointLine.{JointLine}
use Rattle.script_text.specs.declared.joint_line.JointLine.TheVariants.{Nothing, Told, Read, Bad}

-- the line by which a reader, one of this many, asks for a key of some table: an r (114), and then the line of a call that gets the key
abbrev pub IsReadLine : ℕ → ℕ → Key → List ℕ → Type 0
IsReadLine readers reader key line = (rest : List ℕ) × IsLineOf (IsCallText (Table (Get key.table key.key))) readers reader rest × (line ≡ 114 ∷ rest)

-- What a line says: nothing, a call of a caller, what a reader asks for, or it is bad.
abbrev pub JointLineSays : (callers readers : ℕ) → List ℕ → JointLine → Type 0
JointLineSays callers readers line Nothing = IsPassedOver line
JointLineSays callers readers line (Told caller call) = IsLineOf (IsCallText call) callers caller line
JointLineSays callers readers line (Read reader key) = IsReadLine readers reader key line
JointLineSays callers readers line Bad = (IsPassedOver line → ⊥) × ((caller : ℕ) (call : Call) → IsLineOf (IsCallText call) callers caller line → ⊥)
    × ((reader : ℕ) (key : Key) → IsReadLine readers reader key line → ⊥)
