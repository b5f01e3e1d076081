-- What the making of a table does to an open array.
use Rattle.std.specs.Prelude.{ℕ, ℤ, pos, ◌≡◌, ◌<◌, ◌≤◌, ◌⊎◌, ◌++◌, ◌∷◌, [], true, List, length, Some, None, slice_get, IsSome}
use Rattle.tape_media.specs.Steps.{device_of}
use Rattle.array_shape.specs.declared.shape.Shape.{Shape}
use Rattle.record_slots.specs.Text.{IsName}
use Rattle.history.specs.Writes.{Table, rows_of}
use Rattle.caller_steps.specs.State.{records_of}
use Rattle.eaw_device.specs.Opens.{Opens}
use Rattle.record_table.specs.Names.{names_of, IsNew}
use Rattle.record_table.specs.Shown.{table_of}
use Rattle.record_table.specs.Upgrading.{OpensUpgraded}
use Rattle.btree_pages.specs.Index.{tree}
use Rattle.taped_records.specs.declared.making.Unmade.{Unmade}
use Rattle.taped_records.specs.declared.making.Unmade.TheVariants.{BadName, Exists, TablesFull, InUse, PagesFull, Media, Dead, NoMemory}
use Rattle.taped_records.specs.declared.records.TapedRecords.{TapedRecords}
use Rattle.taped_records.specs.Shown.{tape_of, core_in}

-- the names of its tables, and the records that are committed
abbrev pub tables_in : TapedRecords → List (List ℕ)
tables_in array = (core_in array).state.names

abbrev pub records_in : TapedRecords → Table
records_in array = records_of (core_in array).state

-- a table of this name may be made: it is new, there are fewer than eight, and no caller has a transaction
pub record MayMake (name : List ℕ) (array : TapedRecords) : Type 0 where
  pub new : IsNew name (tables_in array)
  pub few : length (tables_in array) < 8
  pub idle : (caller : ℕ) → caller < array.callers → (core_in array).state.live caller ≡ None

-- an image opens with sound data that has tables of these names and these records, as it was or in version 2
pub record OpensHolding (shape : Shape) (names : List (List ℕ)) (table : Table) (image : List ℕ) : Type 0 where
  pub bytes : List ℕ
  pub opened : OpensUpgraded (Opens shape) bytes image
  pub sound : tree.sound bytes
  pub named : names_of bytes ≡ names
  pub shows : table_of tree bytes ≡ table

-- while a table of this name is made: it opens with the records that there were, under the names that there were or under these and the new one
abbrev pub OpensMeanwhile : List ℕ → TapedRecords → List ℕ → Type 0
OpensMeanwhile name old image =
    let shape = old.core.records.store.shape in
    OpensHolding shape (tables_in old) (records_in old) image ⊎ OpensHolding shape (tables_in old ++ name ∷ []) (records_in old) image

-- The array begins anew with tables of these names and the records that there were, and its moments go on. On the device nothing was done meanwhile.
-- Whatever else a loss of power might leave opens as it does while the table is made.
pub record BeginsAnew (name : List ℕ) (called : List (List ℕ)) (old new : TapedRecords) : Type 0 where
  pub names : tables_in new ≡ called
  pub records : records_in new ≡ records_in old
  pub fresh : (core_in new).state.history ≡ []
  pub limits : (core_in new).limits ≡ (core_in old).limits
  pub callers : new.callers ≡ old.callers
  pub rows : new.rows ≡ old.rows
  pub device : device_of (tape_of new).past ≡ device_of (tape_of old).past
  pub later : (core_in old).moment ≤ (core_in new).moment
  pub leaves : (t : ℕ) (image : List ℕ) → t ≤ (core_in old).moment → (core_in new).left_since t image → (core_in old).left_since t image ⊎ OpensMeanwhile name old image

-- The table is there, behind those that there were, and has no records. All else is as it was.
pub record MakesTable (name : List ℕ) (told : ℕ) (old new : TapedRecords) : Type 0 where
  pub may : MayMake name old
  pub number : told ≡ length (tables_in old)
  pub begins : BeginsAnew name (tables_in old ++ name ∷ []) old new
  pub empty : rows_of name (records_in new) ≡ []

-- Why no table was made. What was looked at first is told first: a text that is no name, a name that is there, eight tables, a caller with a
-- transaction.
abbrev pub UnmadeCause : List ℕ → TapedRecords → Unmade → Type 0
UnmadeCause name old BadName = IsName name → ⊥
UnmadeCause name old Exists = (number : ℕ) × (slice_get (tables_in old) number ≡ Some name)
UnmadeCause name old TablesFull = IsNew name (tables_in old) × (length (tables_in old) ≡ 8)
UnmadeCause name old InUse = (caller : ℕ) × (caller < old.callers) × IsSome ((core_in old).state.live caller)
UnmadeCause name old PagesFull = MayMake name old × ((core_in old).state.index.keys.next_page ≡ (core_in old).limits.index_pages)
UnmadeCause name old Dead = MayMake name old × ((core_in old).state.is_dead ≡ true)
UnmadeCause name old Media = MayMake name old
UnmadeCause name old NoMemory = MayMake name old

-- Without a page for the table the array begins anew with the tables that there were. After each other refusal that leaves it, it is what it was.
abbrev pub IsLeft : List ℕ → Unmade → TapedRecords → TapedRecords → Type 0
IsLeft name PagesFull old new = BeginsAnew name (tables_in old) old new
IsLeft name unmade old new = new ≡ old

-- it comes by chance
abbrev pub IsByChance : Unmade → Type 0
IsByChance Media = Unit {0}
IsByChance NoMemory = Unit {0}
IsByChance unmade = ⊥

-- after these alone the array may be closed
abbrev pub MayClose : Unmade → Type 0
MayClose Dead = Unit {0}
MayClose unmade = IsByChance unmade

-- the status of a table that was not made
abbrev pub status_of_unmade : Unmade → ℤ
status_of_unmade PagesFull = pos 10
status_of_unmade Media = pos 11
status_of_unmade Dead = pos 12
status_of_unmade NoMemory = pos 13
status_of_unmade BadName = pos 16
status_of_unmade InUse = pos 28
status_of_unmade Exists = pos 29
status_of_unmade TablesFull = pos 30
