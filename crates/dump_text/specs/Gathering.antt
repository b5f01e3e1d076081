-- How records of lines are gathered, table by table.
use Rattle.std.specs.Prelude.{ℕ, ◌≡◌, ◌≤◌, ◌⊎◌, false, List, ◌∷◌, map, length, Option, Some, None, Result, Ok, Err, slice_get, IsPermutation}
use Rattle.std.specs.List.{Contains, list_any}
use Rattle.history.specs.declared.key.Key.{Key}
use Rattle.history.specs.Key.{of_table}
use Rattle.history.specs.Writes.{Row}
use Rattle.history.specs.Rows.{NamedRows, keyed, records_in}
use Rattle.dump_text.specs.Dump.{is_same_name}
use Rattle.dump_text.specs.Dump.{with_name}
use Rattle.dump_text.specs.declared.fault.LineFault.{LineFault}
use Rattle.dump_text.specs.declared.fault.LineFault.TheVariants.{Twice, NinthTable}

abbrev pub names_of : List NamedRows → List (List ℕ)
names_of tables = map (λ (table : NamedRows). table.0) tables

-- there are eight tables, and none has this name
abbrev pub HasNoRoom : List NamedRows → List ℕ → Type 0
HasNoRoom tables name = (length (names_of tables) ≡ 8) × (list_any (is_same_name name) (names_of tables) ≡ false)

-- where a table of this name stands now, or that there is no room for one
abbrev pub IsPlaced : List NamedRows → List ℕ → List NamedRows → Option ℕ → Type 0
IsPlaced old name new (Some i) = (slice_get (names_of new) i ≡ Some name) × (names_of new ≡ with_name (names_of old) name) × (records_in new ≡ records_in old)
    × (length old ≤ 8 → length new ≤ 8)
IsPlaced old name new None = HasNoRoom old name

-- what comes of putting a row into the table of this name, by what stood under its key: it is there with the others, or one with its key was
abbrev pub IsPut : List NamedRows → List ℕ → Row → Option (List ℕ) → List NamedRows → Type 0
IsPut old name row None new = IsPermutation (keyed name row ∷ records_in old) (records_in new)
IsPut old name row (Some value) new = Contains (records_in old) (of_table name row.0, value)

-- What comes of adding a record: it is there with the others; or one with its key is; or there is no room for its table.
abbrev pub Adds : List NamedRows → Key × List ℕ → Result (Unit {0}) LineFault → List NamedRows → Type 0
Adds old entry (Ok done) new = IsPermutation (entry ∷ records_in old) (records_in new) × (names_of new ≡ with_name (names_of old) entry.0.table) × (length old ≤ 8 → length new ≤ 8)
Adds old entry (Err fault) new =
    ((fault ≡ Twice) × (value : List ℕ) × Contains (records_in old) (entry.0, value)) ⊎ ((fault ≡ NinthTable) × HasNoRoom old entry.0.table)
