-- Why a text is no dump.
use Rattle.std.specs.Prelude.{ℕ, suc, ◌+◌, ◌≡◌, ◌≢◌, ◌≤◌, ◌<◌, ◌^◌, false, nat_eq, if◌then◌else◌, List, [], ◌∷◌, ◌++◌, map, length, codes, Result, Ok, Err}
use lib.Pointwise.{pointwise}
use Rattle.std.specs.Fmt.{decimal}
use Rattle.std.specs.List.{All, Contains, list_any}
use Rattle.record_slots.specs.Text.{IsName, IsValue}
use Rattle.history.specs.Key.{main_name}
use Rattle.history.specs.declared.key.Key.{Key}
use Rattle.history.specs.Rows.{NamedRows}
use Rattle.history_text.specs.Text.{key_text}
use Rattle.script_run.specs.Lines.{lines_of}
use Rattle.dump_text.specs.Dump.{IsRecord, IsDumpOf, record_words, count_words, is_same_name, tables_met}
use Rattle.dump_text.specs.declared.fault.DumpFault.{DumpFault}
use Rattle.dump_text.specs.declared.fault.DumpFault.TheVariants.{Line, Cut, Count, NoMemory}
use Rattle.dump_text.specs.declared.fault.LineFault.{LineFault}
use Rattle.dump_text.specs.declared.fault.LineFault.TheVariants.{NoRecord, NoName, NoKey, NoValue, Twice, NinthTable, BehindTheEnd}

-- what names the table of a record, before its key: nothing for `main`
abbrev pub table_words : List ℕ → List ℕ
table_words table = if pointwise nat_eq table main_name then [] else 64 ∷ (table ++ 32 ∷ [])

-- the words name a table, and these are the words behind that
pub record IsBehindTable (table rest words : List ℕ) : Type 0 where
  pub name : IsName table
  pub said : words ≡ table_words table ++ rest
  pub unnamed : table ≡ main_name → (named : List ℕ) → words ≡ 64 ∷ named → ⊥

-- the words begin with `@`, and behind it stands no name of a table other than `main`
abbrev pub NamesNone : List ℕ → Type 0
NamesNone words = (named : List ℕ) × (words ≡ 64 ∷ named) × ((table rest : List ℕ) → IsName table → table ≢ main_name → named ≡ table ++ 32 ∷ rest → ⊥)

-- the line is that of no record
abbrev pub IsNoRecord : List ℕ → Type 0
IsNoRecord line = (entry : Key × List ℕ) → IsRecord entry → line ≡ record_words entry → ⊥

-- and it does not say how many records there are
abbrev pub SaysNothing : List ℕ → Type 0
SaysNothing line = IsNoRecord line × ((n : ℕ) → n < 2 ^ 64 → line ≡ count_words n → ⊥)

-- Up to where a line is that of a record: it does not begin as one; it names no table; behind its table stands no key; or behind its key stands
-- no value.
abbrev pub IsShort : List ℕ → LineFault → Type 0
IsShort line NoRecord = (rest : List ℕ) → line ≡ codes "rec " ++ rest → ⊥
IsShort line NoName = (words : List ℕ) × (line ≡ codes "rec " ++ words) × NamesNone words
IsShort line NoKey = (table rest : List ℕ) × (line ≡ codes "rec " ++ (table_words table ++ rest)) × ((key : ℕ) (behind : List ℕ) → key < 2 ^ 64 → rest ≡ decimal key ++ 32 ∷ behind → ⊥)
IsShort line NoValue = (key : Key) × (text : List ℕ) × (line ≡ codes "rec " ++ (key_text key ++ 32 ∷ text)) × (IsValue text → ⊥)
IsShort line _ = ⊥

-- Why a line behind those of these records is refused: it is no record, and short of one; or its key is one of theirs; or they are of eight
-- tables, and it is of another.
abbrev pub IsRefused : List (Key × List ℕ) → List ℕ → LineFault → Type 0
IsRefused read line Twice = (entry : Key × List ℕ) × (line ≡ record_words entry) × IsRecord entry × ((value : List ℕ) × Contains read (entry.0, value))
IsRefused read line NinthTable =
    (entry : Key × List ℕ) × (line ≡ record_words entry) × IsRecord entry × (length (tables_met read) ≡ 8) × (list_any (is_same_name entry.0.table) (tables_met read) ≡ false)
IsRefused read line fault = SaysNothing line × IsShort line fault

-- the line of this number, counted from 1, is refused, and those before it are records
abbrev pub IsRefusedAt : List ℕ → ℕ → LineFault → Type 0
IsRefusedAt text n BehindTheEnd = (read : List (Key × List ℕ)) × (said : ℕ) × (line : List ℕ) × (rest : List (List ℕ))
    × (lines_of text ≡ map record_words read ++ count_words said ∷ line ∷ rest) × All IsRecord read × (n ≡ suc (suc (length read)))
IsRefusedAt text n fault = (read : List (Key × List ℕ)) × (line : List ℕ) × (rest : List (List ℕ))
    × (lines_of text ≡ map record_words read ++ line ∷ rest) × All IsRecord read × (n ≡ suc (length read)) × IsRefused read line fault

-- A line is refused; or all lines are records, and none says how many; or the last line says another number.
abbrev pub HasCause : List ℕ → DumpFault → Type 0
HasCause text (Line n fault) = IsRefusedAt text n fault
HasCause text Cut = (read : List (Key × List ℕ)) × (lines_of text ≡ map record_words read) × All IsRecord read
HasCause text (Count said counted) =
    (read : List (Key × List ℕ)) × (lines_of text ≡ map record_words read ++ count_words said ∷ []) × All IsRecord read × (said < 2 ^ 64) × (counted ≡ length read) × (said ≢ counted)
HasCause text NoMemory = Unit {0}

-- what a text is read as
abbrev pub DumpSays : List ℕ → Result (List NamedRows) DumpFault → Type 0
DumpSays text (Ok tables) = IsDumpOf text tables
DumpSays text (Err fault) = HasCause text fault
