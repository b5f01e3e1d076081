-- What a table in memory stands for during a replay.
use Rattle.std.specs.Prelude.{Bool, ◌&&◌, nat_le, List, [], ◌∷◌, ℕ, map}
use Rattle.std.specs.BTreeMap.{BTreeMap}
use Rattle.std.specs.FinMap.{from_entries, insert}
use Rattle.history.specs.Key.{of_table, is_of_table}
use Rattle.history.specs.declared.key.Key.{Key}
use Rattle.history.specs.Writes.{Table, Row}
use Rattle.history.specs.Table.{Work}
use Rattle.history_replay.specs.declared.replay.Replay.{Replay}

abbrev pub table_in : BTreeMap Key (List ℕ) → Table
table_in memory = from_entries memory.entries

-- the table and the tables at its saves
abbrev pub work_in : Replay → Work
work_in replay = record { table = table_in replay.table; saves = map table_in replay.saves.items }

-- the records of a table with these rows of the table of this name, put one after another from the last one on
abbrev pub with_rows : Table → List ℕ → List Row → Table
with_rows table name [] = table
with_rows table name (row ∷ rows) = insert (with_rows table name rows) (of_table name row.0) row.1

-- a key of the table of this name from one number to another, both included
abbrev pub is_listed : List ℕ → ℕ → ℕ → Key → Bool
is_listed name low high key = is_of_table name key && (nat_le low key.key && nat_le key.key high)
