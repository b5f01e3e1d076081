-- What is gathered while lines are read.
use Rattle.std.specs.Prelude.{ℕ, ◌≡◌, ◌≤◌, List, [], ◌∷◌, ◌++◌, length, Result, Ok, Err, IsPermutation}
use Rattle.std.specs.List.{All}
use Rattle.history.specs.declared.key.Key.{Key}
use Rattle.history.specs.Rows.{NamedRows, records_in}
use Rattle.dump_text.specs.Dump.{IsRecord, record_words, tables_met}
use Rattle.dump_text.specs.Causes.{IsRefused}
use Rattle.dump_text.specs.Gathering.{names_of}
use Rattle.dump_text.specs.declared.fault.DumpFault.{DumpFault}
use Rattle.dump_text.specs.declared.fault.DumpFault.TheVariants.{Line, NoMemory}
use Rattle.dump_text.specs.declared.fault.LineFault.{LineFault}
use Rattle.dump_text.specs.declared.fault.LineFault.TheVariants.{BehindTheEnd}

-- the records that were read are those of the tables, which are the tables that they are of
pub record HasRead (tables : List NamedRows) (read : List (Key × List ℕ)) : Type 0 where
  pub proper : All IsRecord read
  pub same : IsPermutation read (records_in tables)
  pub names : names_of tables ≡ tables_met read
  pub few : length tables ≤ 8

-- it may be found at a line without those behind it
abbrev pub NotBehind : LineFault → Type 0
NotBehind BehindTheEnd = ⊥
NotBehind fault = Unit {0}

-- a line is that of one record more; or it is refused
abbrev pub Takes : List (Key × List ℕ) → List ℕ → ℕ → Result (Unit {0}) DumpFault → List NamedRows → Type 0
Takes read line n (Ok done) new = (entry : Key × List ℕ) × (line ≡ record_words entry) × HasRead new (read ++ entry ∷ [])
Takes read line n (Err (Line m fault)) new = (m ≡ n) × IsRefused read line fault × NotBehind fault
Takes read line n (Err NoMemory) new = Unit {0}
Takes read line n (Err fault) new = ⊥
