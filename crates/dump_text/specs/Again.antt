-- What a dump writes is read again.
use Rattle.std.specs.Prelude.{ℕ, ◌≡◌, ◌≤◌, ◌<◌, ◌^◌, List, ◌++◌, map, length, codes, Result, Ok, Err, IsPermutation}
use Rattle.std.specs.List.{All, IsDistinct, flat_map}
use Rattle.history.specs.Key.{is_same_key}
use Rattle.history.specs.declared.key.Key.{Key}
use Rattle.history.specs.Rows.{NamedRows, records_in}
use Rattle.history_text.specs.Text.{record_line, number_line}
use Rattle.dump_text.specs.Dump.{IsRecord, AreTables, tables_met}
use Rattle.dump_text.specs.declared.fault.DumpFault.{DumpFault}
use Rattle.dump_text.specs.declared.fault.DumpFault.TheVariants.{NoMemory}

-- the text of a dump of records: their lines, and one that says how many there are
abbrev pub dumped : List (Key × List ℕ) → List ℕ
dumped records = flat_map record_line records ++ number_line (codes "records") (length records)

-- records that an array may have: their keys differ, and they are of at most eight tables, `main` among them
pub record AreOfArray (records : List (Key × List ℕ)) : Type 0 where
  pub proper : All IsRecord records
  pub once : IsDistinct is_same_key (map (λ entry. entry.0) records)
  pub few : length (tables_met records) ≤ 8
  pub countable : length records < 2 ^ 64

-- just these records are read, under the names of their tables, or memory ran out
abbrev pub IsReadAs : List (Key × List ℕ) → Result (List NamedRows) DumpFault → Type 0
IsReadAs records (Ok tables) = IsPermutation records (records_in tables) × AreTables tables × (map (λ (table : NamedRows). table.0) tables ≡ tables_met records)
IsReadAs records (Err fault) = fault ≡ NoMemory
