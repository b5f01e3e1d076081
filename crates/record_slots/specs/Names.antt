-- The names of tables, and one table more.
use Rattle.std.specs.Prelude.{ℕ, suc, ◌+◌, nat_eq, if◌then◌else◌, List, [], ◌∷◌, ◌++◌, map, Option, Some, None}
use Rattle.std.specs.Option.{option_map}
use lib.Pointwise.{pointwise}
use Rattle.record_slots.specs.declared.super_page.Super.{Super}
use Rattle.record_slots.specs.declared.super_page.TableEntry.{TableEntry}

-- the names of these tables, by their numbers
abbrev pub names_in : List TableEntry → List (List ℕ)
names_in tables = map (λ table. table.name) tables

-- the number of the table of this name, if there is one
abbrev pub number_of : List (List ℕ) → List ℕ → Option ℕ
number_of [] name = None
number_of (other ∷ names) name = if pointwise nat_eq other name then Some 0 else option_map suc (number_of names name)

-- these tables and a last one of this name and root
abbrev pub with_last : List TableEntry → List ℕ → ℕ → List TableEntry
with_last tables name root = tables ++ record { name = name; root = root } ∷ []

-- the same super page with other entries, and one page more given out
abbrev pub with_entries : Super → List ℕ → Super
with_entries front entries = record front { next_page = front.next_page + 1; entries = entries }
