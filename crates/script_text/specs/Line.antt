-- The lines of a script.
use Rattle.std.specs.Prelude.{ℕ, ◌≡◌, ◌<◌, ◌^◌, ◌⊎◌, List, [], ◌∷◌, ◌++◌, codes}
use Rattle.std.specs.Fmt.{decimal}
use Rattle.record_slots.specs.Text.{IsName, IsValue}
use Rattle.history.specs.Key.{main_name}
use Rattle.history.specs.declared.call.Call.{Call}
use Rattle.history.specs.declared.call.Call.TheVariants.{Begin, Table, Control}
use Rattle.history.specs.declared.call.TableCall.TheVariants.{Get, Put, Del, Scan, Save, Back}
use Rattle.history.specs.declared.call.Control as history
use Rattle.history.specs.declared.call.Control.TheVariants.{Commit, Abort, Offer, Settle, Purge}
use Rattle.script_text.specs.declared.line.Line.{Line}
use Rattle.script_text.specs.declared.line.Line.TheVariants.{Nothing, Told, Bad}

-- The words of a call on the table of this name, and before them `@`, the name and a space. The table `main` need not be named.
abbrev pub IsNamed : List ℕ → List ℕ → List ℕ → Type 0
IsNamed name words text = IsName name × ((text ≡ 64 ∷ (name ++ 32 ∷ words)) ⊎ ((name ≡ main_name) × (text ≡ words)))

-- the text of what ends, offers or settles a transaction, or comes outside of any
abbrev pub control_text : history.Control → List ℕ
control_text Commit = codes "commit"
control_text Abort = codes "abort"
control_text Offer = codes "offer"
control_text Settle = codes "settle"
control_text Purge = codes "purge"

-- The text of a call. Its keys are numbers of 64 bits, its save is one of 32 bits, and its value is a proper value.
abbrev pub IsCallText : Call → List ℕ → Type 0
IsCallText Begin text = text ≡ codes "begin"
IsCallText (Table (Get name key)) text = (key < 2 ^ 64) × IsNamed name (codes "get " ++ decimal key) text
IsCallText (Table (Put name key value)) text = (key < 2 ^ 64) × IsValue value × IsNamed name (codes "put " ++ (decimal key ++ 32 ∷ value)) text
IsCallText (Table (Del name key)) text = (key < 2 ^ 64) × IsNamed name (codes "del " ++ decimal key) text
IsCallText (Table (Scan name low high)) text = (low < 2 ^ 64) × (high < 2 ^ 64) × IsNamed name (codes "scan " ++ (decimal low ++ 32 ∷ decimal high)) text
IsCallText (Table Save) text = text ≡ codes "save"
IsCallText (Table (Back save)) text = (save < 2 ^ 32) × (text ≡ codes "back " ++ decimal save)
IsCallText (Control control) text = text ≡ control_text control

-- a line of this number, one of this many: the number, a space, and a text of this kind
abbrev pub IsLineOf : (List ℕ → Type 0) → ℕ → ℕ → List ℕ → Type 0
IsLineOf IsText numbers number line = (number < numbers) × (text : List ℕ) × IsText text × (line ≡ decimal number ++ 32 ∷ text)

-- no bytes, or a # as the first
abbrev pub IsPassedOver : List ℕ → Type 0
IsPassedOver [] = Unit {0}
IsPassedOver (byte ∷ bytes) = byte ≡ 35

-- What a line says: nothing, a call of a caller, or it is bad.
abbrev pub LineSays : ℕ → List ℕ → Line → Type 0
LineSays callers line Nothing = IsPassedOver line
LineSays callers line (Told caller call) = IsLineOf (IsCallText call) callers caller line
LineSays callers line Bad = (IsPassedOver line → ⊥) × ((caller : ℕ) (call : Call) → IsLineOf (IsCallText call) callers caller line → ⊥)
