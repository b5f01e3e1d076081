-- The parts of the text of a call: its words, and the name of a table before them.
use Rattle.std.specs.Prelude.{ℕ, ◌≡◌, ◌<◌, ◌^◌, ◌⊎◌, List, ◌∷◌, ◌++◌, codes, Option, Some, None}
use Rattle.std.specs.Fmt.{decimal}
use Rattle.record_slots.specs.Text.{IsName, IsValue}
use Rattle.history.specs.Key.{main_name}
use Rattle.history.specs.declared.call.Call.{Call}
use Rattle.history.specs.declared.call.Call.TheVariants.{Begin, Table, Control}
use Rattle.history.specs.declared.call.TableCall.TheVariants.{Get, Put, Del, Scan, Save, Back}
use Rattle.script_text.specs.Line.{control_text}

-- the name of the table that a call asks for
abbrev pub asked_table : Call → Option (List ℕ)
asked_table (Table (Get name key)) = Some name
asked_table (Table (Put name key value)) = Some name
asked_table (Table (Del name key)) = Some name
asked_table (Table (Scan name low high)) = Some name
asked_table call = None

-- The words of a call. Its keys are numbers of 64 bits, its save is one of 32 bits, and its value is a proper value.
abbrev pub AreWordsOf : Call → List ℕ → Type 0
AreWordsOf Begin words = words ≡ codes "begin"
AreWordsOf (Table (Get name key)) words = (key < 2 ^ 64) × (words ≡ codes "get " ++ decimal key)
AreWordsOf (Table (Put name key value)) words = (key < 2 ^ 64) × IsValue value × (words ≡ codes "put " ++ (decimal key ++ 32 ∷ value))
AreWordsOf (Table (Del name key)) words = (key < 2 ^ 64) × (words ≡ codes "del " ++ decimal key)
AreWordsOf (Table (Scan name low high)) words = (low < 2 ^ 64) × (high < 2 ^ 64) × (words ≡ codes "scan " ++ (decimal low ++ 32 ∷ decimal high))
AreWordsOf (Table Save) words = words ≡ codes "save"
AreWordsOf (Table (Back save)) words = (save < 2 ^ 32) × (words ≡ codes "back " ++ decimal save)
AreWordsOf (Control control) words = words ≡ control_text control

-- A text of words with the name of their table before them, if they are of one. The table `main` need not be named.
abbrev pub IsTextFor : Option (List ℕ) → (List ℕ → Type 0) → List ℕ → Type 0
IsTextFor None AreWords text = AreWords text
IsTextFor (Some name) AreWords text = IsName name × (((words : List ℕ) × (text ≡ 64 ∷ (name ++ 32 ∷ words)) × AreWords words) ⊎ ((name ≡ main_name) × AreWords text))

-- the text of a call, in its parts
abbrev pub HasParts : Call → List ℕ → Type 0
HasParts call text = IsTextFor (asked_table call) (AreWordsOf call) text

-- the words of a call that asks for this table, or for none
abbrev pub IsAsking : Option (List ℕ) → Call → List ℕ → Type 0
IsAsking asked call words = (asked_table call ≡ asked) × AreWordsOf call words

-- the name of a table, a space, and the words of a call that asks for it
abbrev pub IsBehindName : Call → List ℕ → Type 0
IsBehindName call text = (name : List ℕ) × (words : List ℕ) × IsName name × (text ≡ name ++ 32 ∷ words) × IsAsking (Some name) call words
