-- Tables of records, and writes to them.
use Rattle.std.specs.Prelude.{ℕ, nat_eq, nat_le, ◌&&◌, not, if◌then◌else◌, Bool, List, [], ◌∷◌, ◌++◌, map, filter, take, drop, Option, Some, None}
use Rattle.std.specs.List.{list_any}
use Rattle.std.specs.FinMap.{FinMap, insert, remove, entries}
use lib.Pointwise.{pointwise}
use Rattle.history.specs.Key.{Key, key_cmp, is_same_key}

-- a value for each of some keys
abbrev pub Table : Type 0
Table = FinMap key_cmp (List ℕ)

-- a record of some table: the number of its key, and its value
abbrev pub Row : Type 0
Row = ℕ × List ℕ

-- a key and its new value, or none if its record is removed
abbrev pub Write : Type 0
Write = Key × Option (List ℕ)

abbrev pub set_or_remove : Table → Key → Option (List ℕ) → Table
set_or_remove table key None = remove table key
set_or_remove table key (Some value) = insert table key value

abbrev pub write_into : Table → Write → Table
write_into table write = set_or_remove table write.0 write.1

-- the table after writes, one after another
abbrev pub all_written : Table → List Write → Table
all_written table [] = table
all_written table (write ∷ writes) = all_written (write_into table write) writes

-- the write is of this key
abbrev pub is_of : Key → Write → Bool
is_of key write = is_same_key write.0 key

-- a write in the place of the last one of its key, or else after all of them
abbrev pub replaced : Write → List Write → List Write
replaced write [] = write ∷ []
replaced write (other ∷ writes) =
    if is_of write.0 other && not (list_any (is_of write.0) writes) then write ∷ writes else other ∷ replaced write writes

-- the writes with one more, which replaces one of its key after the first `floor` writes
abbrev pub with_write : ℕ → Write → List Write → List Write
with_write floor write writes = take floor writes ++ replaced write (drop floor writes)

-- the records of the table of this name, by rising number
abbrev pub rows_of : List ℕ → Table → List (ℕ × List ℕ)
rows_of name table = map (λ (entry : Key × List ℕ). (entry.0.key, entry.1)) (filter (λ (entry : Key × List ℕ). pointwise nat_eq name entry.0.table) (entries table))

-- the number of the row is from one number to another, both included
abbrev pub is_within : ℕ → ℕ → Row → Bool
is_within low high row = nat_le low row.0 && nat_le row.0 high

-- those from one number to another, both included
abbrev pub rows_within : List ℕ → ℕ → ℕ → Table → List (ℕ × List ℕ)
rows_within name low high table = filter (λ (row : ℕ × List ℕ). nat_le low row.0 && nat_le row.0 high) (rows_of name table)
