-- Lists of rows: when two are equal, and the table of one.
use Rattle.std.specs.Prelude.{Bool, ◌&&◌, nat_eq, ℕ, List, [], ◌∷◌, ◌++◌, map}
use lib.Pointwise.{pointwise}
use Rattle.std.specs.FinMap.{from_entries}
use Rattle.history.specs.Key.{Key, of_table}
use Rattle.history.specs.Writes.{Table, Row}

-- two rows have the same number and value
abbrev pub is_same_row : Row → Row → Bool
is_same_row one other = nat_eq one.0 other.0 && pointwise nat_eq one.1 other.1

-- two lists are equal record by record
abbrev pub are_same_rows : List Row → List Row → Bool
are_same_rows one other = pointwise is_same_row one other

-- a row as a record of the table of this name, and so each of some rows
abbrev pub keyed : List ℕ → Row → Key × List ℕ
keyed name row = (of_table name row.0, row.1)

abbrev pub all_keyed : List ℕ → List Row → List (Key × List ℕ)
all_keyed name rows = map (keyed name) rows

-- the rows of tables, each with its name, and all their records
abbrev pub NamedRows : Type 0
NamedRows = List ℕ × List Row

abbrev pub records_in : List NamedRows → List (Key × List ℕ)
records_in [] = []
records_in (table ∷ tables) = all_keyed table.0 table.1 ++ records_in tables

-- the table with these records; if a key stands twice, the first record counts
abbrev pub table_of : List NamedRows → Table
table_of tables = from_entries (records_in tables)
