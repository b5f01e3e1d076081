-- The records of an index: each key whose slot holds a value, with that value.
use Rattle.std.specs.Prelude.{ℕ, List, [], ◌∷◌, ◌++◌, map, Option, Some, None}
use Rattle.record_slots.specs.Slots.{slot_said}
use Rattle.record_slots.specs.Places.{slot_of, tables_of}
use Rattle.record_slots.specs.declared.slot.Slot.{Slot}
use Rattle.record_slots.specs.declared.slot.Slot.TheVariants.{Present}
use Rattle.page_store.specs.Index.{Index}
use Rattle.page_store.specs.Pairs.{Pair}

-- the value in a slot, if it holds one
abbrev pub value_of : Option Slot → Option (List ℕ)
value_of (Some (Present table key value)) = Some value
value_of _ = None

-- the row of a key, if it has a record
abbrev pub row_at : ℕ → Option (List ℕ) → List (ℕ × List ℕ)
row_at key None = []
row_at key (Some value) = (key, value) ∷ []

-- the record of a pair, if its slot holds a value, and those of pairs
abbrev pub row_of : List ℕ → Pair → List (ℕ × List ℕ)
row_of bytes pair = row_at pair.0 (value_of (slot_said (slot_of bytes pair.1)))

abbrev pub rows_of : List ℕ → List Pair → List (ℕ × List ℕ)
rows_of bytes [] = []
rows_of bytes (pair ∷ pairs) = row_of bytes pair ++ rows_of bytes pairs

-- the records of each table, by its number
abbrev pub records_of : Index → List ℕ → List (List (ℕ × List ℕ))
records_of index bytes = map (λ entry. rows_of bytes (index.pairs bytes entry.root)) (tables_of bytes)
