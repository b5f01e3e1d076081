-- The names of the tables in the data.
use Rattle.std.specs.Prelude.{ℕ, ◌≡◌, ◌≢◌, ◌<◌, Bool, IsTrue, nat_eq, List, [], codes, length, map, Option, Some, get_or, slice_get}
use Rattle.std.specs.List.{find}
use Rattle.std.specs.Option.{option_map, unwrap_or}
use lib.Pointwise.{pointwise}
use Rattle.array_shape.specs.Places.{page_count}
use Rattle.eaw_face.specs.Causes.{IsAlive}
use Rattle.history.specs.declared.key.Key.{Key}
use Rattle.record_slots.specs.declared.super_page.TableEntry.{TableEntry}
use Rattle.record_slots.specs.Places.{tables_of}
use Rattle.page_store.specs.Index.{IsTable}
use Rattle.page_store.specs.Shown.{PagesView}

-- the names by the numbers of their tables
abbrev pub names_of : List ℕ → List (List ℕ)
names_of bytes = map (λ table. table.name) (tables_of bytes)

-- the root of the index of the table of this name, if there is one
abbrev pub root_named : List ℕ → List ℕ → Option ℕ
root_named bytes name = option_map (λ table. table.root) (find (λ (table : TableEntry). pointwise nat_eq table.name name) (tables_of bytes))

-- the table of this number has this name
abbrev pub IsCalled : List ℕ → ℕ → List ℕ → Type 0
IsCalled bytes table name = slice_get (names_of bytes) table ≡ Some name

-- the name of a table, or the empty text if there is no such table
abbrev pub name_at : List ℕ → ℕ → List ℕ
name_at bytes table = unwrap_or (slice_get (names_of bytes) table) []

-- the key of a record of a table: its name, and the number
abbrev pub key_in : List ℕ → ℕ → ℕ → Key
key_in bytes table key = record { table = name_at bytes table; key = key }

-- no table has this name
abbrev pub IsNew : List ℕ → List (List ℕ) → Type 0
IsNew name names = (j : ℕ) → slice_get names j ≢ Some name

-- the names that are kept are those of the data, while the store tells its data and is not dead
abbrev pub KeepsNames : Bool → PagesView → List (List ℕ) → Type 0
KeepsNames tells pages names = IsTrue tells → IsAlive pages.store → names ≡ names_of pages.store.state.bytes

-- over any store, whether it is dead or not, the first of them is `main`, which each array has
abbrev pub BeginsWithMain : List (List ℕ) → Type 0
BeginsWithMain names = slice_get names 0 ≡ Some (codes "main")

-- The roots of their indexes are kept as the names are. Each is a page of the array over any store.
abbrev pub AreRootsOf : List ℕ → List ℕ → Type 0
AreRootsOf bytes roots = (table root : ℕ) → table < 8 → IsTable bytes table root → get_or roots table 0 ≡ root

abbrev pub ArePages : ℕ → List ℕ → Type 0
ArePages pages roots = (table : ℕ) → table < 8 → get_or roots table 0 < pages

pub record KeepsRoots (tells : Bool) (pages : PagesView) (roots : List ℕ) : Type 0 where
  pub long : length roots ≡ 8
  pub inside : ArePages (page_count pages.store.shape) roots
  pub are : IsTrue tells → IsAlive pages.store → AreRootsOf pages.store.state.bytes roots

-- the tables that are kept
abbrev pub KeepsTables : Bool → PagesView → List (List ℕ) → List ℕ → Type 0
KeepsTables tells pages names roots = (KeepsNames tells pages names × BeginsWithMain names) × KeepsRoots tells pages roots
