-- The text of a dump, its lines in any order.
use Rattle.std.specs.Prelude.{ℕ, ◌≡◌, ◌≤◌, ◌<◌, ◌^◌, Bool, nat_eq, if◌then◌else◌, List, [], ◌∷◌, ◌++◌, map, length, codes, IsPermutation}
use lib.Pointwise.{pointwise}
use Rattle.std.specs.Fmt.{decimal}
use Rattle.std.specs.List.{All, IsDistinct, list_any}
use Rattle.std.specs.List.Sorted.{IsStrictlySortedBy}
use Rattle.std.specs.Ordering.{nat_cmp}
use Rattle.record_slots.specs.Text.{IsName, IsValue}
use Rattle.history.specs.Key.{main_name}
use Rattle.history.specs.declared.key.Key.{Key}
use Rattle.history.specs.Rows.{NamedRows, records_in}
use Rattle.history_text.specs.Text.{key_text}
use Rattle.script_run.specs.Lines.{lines_of}

-- a record that a table may have: a name, a key of 64 bits, and a proper value
pub record IsRecord (entry : Key × List ℕ) : Type 0 where
  pub table : IsName entry.0.table
  pub key : entry.0.key < 2 ^ 64
  pub value : IsValue entry.1

-- the line of a record, and the last line, which says how many there are, without their newlines
abbrev pub record_words : Key × List ℕ → List ℕ
record_words entry = codes "rec " ++ (key_text entry.0 ++ 32 ∷ entry.1)

abbrev pub count_words : ℕ → List ℕ
count_words n = codes "records " ++ decimal n

-- two names are the same
abbrev pub is_same_name : List ℕ → List ℕ → Bool
is_same_name one other = pointwise nat_eq one other

-- the names with this one, if it is not among them
abbrev pub with_name : List (List ℕ) → List ℕ → List (List ℕ)
with_name names name = if list_any (is_same_name name) names then names else names ++ name ∷ []

-- the tables that records are of, behind these
abbrev pub met : List (List ℕ) → List (Key × List ℕ) → List (List ℕ)
met names [] = names
met names (entry ∷ entries) = met (with_name names entry.0.table) entries

-- those of an array: `main`, and each other in the order in which records name it
abbrev pub tables_met : List (Key × List ℕ) → List (List ℕ)
tables_met entries = met (main_name ∷ []) entries

-- the keys of rows rise
abbrev pub AreRising : NamedRows → Type 0
AreRising table = IsStrictlySortedBy nat_cmp (map (λ row. row.0) table.1)

-- tables of an array: `main` is the first, there are at most eight of different names, and the keys of each rise
pub record AreTables (tables : List NamedRows) : Type 0 where
  pub main : (rows : _) × (others : List NamedRows) × (tables ≡ (main_name, rows) ∷ others)
  pub few : length tables ≤ 8
  pub apart : IsDistinct is_same_name (map (λ table. table.0) tables)
  pub rising : All AreRising tables

-- The text's lines are those of the tables' records, in any order, and a last one that says how many these are. The tables are `main` and those
-- that have a record.
pub record IsDumpOf (text : List ℕ) (tables : List NamedRows) : Type 0 where
  pub read : List (Key × List ℕ)
  pub lines : lines_of text ≡ map record_words read ++ count_words (length read) ∷ []
  pub proper : All IsRecord read
  pub same : IsPermutation read (records_in tables)
  pub are : AreTables tables
  pub names : map (λ (table : NamedRows). table.0) tables ≡ tables_met read
