-- What a scan meets, key by key.
use Rattle.std.specs.Prelude.{ℕ, suc, ◌≡◌, Bool, IsTrue, List, [], ◌++◌, Option, Some, None, Result, Ok, Err}
use Rattle.history.specs.Writes.{Row, rows_within}
use Rattle.page_store.specs.Index.{Index}
use Rattle.page_store.specs.Records.{row_at}
use Rattle.page_store.specs.Shown.{PagesView}
use Rattle.record_table.specs.State.{seen_by}
use Rattle.record_table.specs.Shown.{state_of}
use Rattle.record_table.specs.declared.scanning.Next.{Next}
use Rattle.record_table.specs.declared.fault.TableFault.{TableFault}
use Rattle.record_table.specs.declared.fault.TableFault.TheVariants.{Media, Damaged, NoMemory}

-- the records of the table of this name from one key to another that number t sees
abbrev pub rows_seen : Index → ℕ → List ℕ → PagesView → ℕ → ℕ → List Row
rows_seen index t name old low high = rows_within name low high (seen_by (state_of index old) t)

-- those from a key on, or none if there is no such key
abbrev pub rows_left : Index → ℕ → List ℕ → PagesView → Option ℕ → ℕ → List Row
rows_left index t name old None high = []
rows_left index t name old (Some from) high = rows_seen index t name old from high

-- there are no rows; or the first is that of this key, if it has a record, and the others come after it
abbrev pub Follows : Index → ℕ → List ℕ → ℕ → ℕ → PagesView → Option Next → Type 0
Follows index t name from high old None = rows_seen index t name old from high ≡ []
Follows index t name from high old (Some next) = rows_seen index t name old from high ≡ row_at next.key next.value ++ rows_seen index t name old (suc next.key) high

-- why a scan of a store that is not dead may be refused
abbrev pub ScanCause : {T : Type 0} → Bool → Result T TableFault → Type 0
ScanCause tells (Ok done) = Unit {0}
ScanCause tells (Err Media) = Unit {0}
ScanCause tells (Err NoMemory) = Unit {0}
ScanCause tells (Err (Damaged page)) = ¬ IsTrue tells
ScanCause tells (Err _) = ⊥
