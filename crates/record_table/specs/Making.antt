-- What the making of a table does.
use Rattle.std.specs.Prelude.{ℕ, suc, ◌≡◌, ◌≢◌, ◌-◌, ◌<◌, ◌≤◌, ◌⊎◌, Bool, true, false, IsTrue, IsFalse, List, [], ◌∷◌, ◌++◌, length, Some, None, slice_get, Result, Ok, Err, OnOk, OnErr}
use Rattle.mars_base.specs.Causes.{Rose}
use Rattle.eaw_face.specs.StoreView.{StoreView, LeavesOnly}
use Rattle.eaw_face.specs.Causes.{IsAlive}
use Rattle.history.specs.declared.call.Call.TheVariants.{Control}
use Rattle.history.specs.declared.call.Control.TheVariants.{Abort}
use Rattle.history.specs.declared.call.Reply.TheVariants.{Fine}
use Rattle.record_slots.specs.Names.{names_in, with_last}
use Rattle.record_slots.specs.Places.{next_page, version_of, tables_of}
use Rattle.record_slots.specs.Super.{HasTables, tables_used}
use Rattle.record_slots.specs.declared.super_page.Super.{Super}
use Rattle.page_store.specs.Index.{Index, IsTable, index_pages_of}
use Rattle.page_store.specs.Shown.{PagesView}
use Rattle.page_store.specs.declared.fault.PageFault.{PageFault}
use Rattle.page_store.specs.declared.fault.PageFault.TheVariants as page
use Rattle.record_table.specs.Calls.{after}
use Rattle.record_table.specs.Does.{OpensNamed}
use Rattle.record_table.specs.Names.{names_of, IsNew}
use Rattle.record_table.specs.Shown.{state_of, keys_of}
use Rattle.record_table.specs.State.{Keys}
use Rattle.record_table.specs.Upgrading.{upgraded}
use Rattle.record_table.specs.declared.making.MakeFault.{MakeFault}
use Rattle.record_table.specs.declared.making.MakeFault.TheVariants.{Exists, TablesFull, PagesFull, Media, Dead, Damaged}
use Rattle.eaw_face.specs.Mirroring.{Mirrors}

-- a refusal of pages, which is not for want of room for a number's writes or saves
abbrev pub as_make : PageFault → MakeFault
as_make page.Media = Media
as_make (page.Damaged bad) = Damaged bad
as_make _ = Dead

-- the medium failed
abbrev pub is_make_failed : Result ℕ MakeFault → Bool
is_make_failed (Err Media) = true
is_make_failed _ = false

-- a super page of version 2 with entries of tables
pub record IsFit (front : Super) : Type 0 where
  pub version : front.version ≡ 2
  pub some : 2 ≤ front.next_page
  pub tables : HasTables 2 front.next_page front.entries

abbrev pub names_said : Super → List (List ℕ)
names_said front = names_in (tables_used front.entries)

-- where a super page has room for a table of this name, in an array with so many pages for indexes: the name is asked first, then a number, then
-- a page
abbrev pub PlaceCause : List ℕ → ℕ → Super → Result ℕ MakeFault → Type 0
PlaceCause name half front (Ok j) = IsFit front × IsNew name (names_said front) × (j ≡ length (names_said front)) × (j < 8) × (front.next_page < half)
PlaceCause name half front (Err Exists) = IsFit front × (j : ℕ) × (slice_get (names_said front) j ≡ Some name)
PlaceCause name half front (Err TablesFull) = IsFit front × IsNew name (names_said front) × (length (names_said front) ≡ 8)
PlaceCause name half front (Err (PagesFull n)) = IsFit front × IsNew name (names_said front) × (length (names_said front) < 8) × (half ≤ front.next_page) × (n ≡ half - 1)
PlaceCause name half front (Err (Damaged page)) = IsFit front → ⊥
PlaceCause name half front (Err fault) = ⊥

-- Why it gets this answer. Over a store that tells its data, a name that is there, eight tables and no page left are each answered exactly
-- then, in this order, and no page is answered as damaged. The new table has the number behind those that are there.
abbrev pub MakeCause : Bool → List ℕ → StoreView → Result ℕ MakeFault → Type 0
MakeCause tells name old (Ok j) = IsAlive old
    × (IsTrue tells → IsNew name (names_of old.state.bytes) × (j ≡ length (names_of old.state.bytes)) × (j < 8) × (next_page old.state.bytes < index_pages_of old.shape))
MakeCause tells name old (Err Exists) = IsAlive old × (IsTrue tells → (j : ℕ) × (slice_get (names_of old.state.bytes) j ≡ Some name))
MakeCause tells name old (Err TablesFull) = IsAlive old × (IsTrue tells → IsNew name (names_of old.state.bytes) × (length (names_of old.state.bytes) ≡ 8))
MakeCause tells name old (Err (PagesFull n)) = IsAlive old × (n ≡ index_pages_of old.shape - 1)
    × (IsTrue tells → IsNew name (names_of old.state.bytes) × (length (names_of old.state.bytes) < 8) × (next_page old.state.bytes ≡ index_pages_of old.shape))
MakeCause tells name old (Err Media) = IsAlive old
MakeCause tells name old (Err Dead) = old.is_dead ≡ true
MakeCause tells name old (Err (Damaged page)) = IsAlive old × ¬ IsTrue tells

-- the same keys, and one more page in use
abbrev pub with_page : Keys → Keys
with_page keys = record keys { used_pages = suc keys.used_pages; next_page = suc keys.next_page }

-- where there is no place for the table, the upgrade was done, and nothing else was written
abbrev pub OnlyUpgrades : List ℕ → List ℕ → Result ℕ MakeFault → Type 0
OnlyUpgrades old new (Err Exists) = new ≡ upgraded old
OnlyUpgrades old new (Err TablesFull) = new ≡ upgraded old
OnlyUpgrades old new (Err (PagesFull n)) = new ≡ upgraded old
OnlyUpgrades old new result = Unit {0}

-- The making of a table of this name. After an Ok it is the last one, and its index, in the page that was next, has no pairs; the super page
-- is of version 2. All other tables have their indexes and records, and all numbers what they have written and saved, but for the number 0,
-- which is as after an abort. After a refusal other than Media at most the version has changed; where there is no place for the table, it is 2.
-- Media leaves the store dead. At each moment of a store that was not dead, a loss of power leaves what it might have left before, or an image
-- that opens with the records that there were, under the names that there were, or under those and the new one.
pub record Makes (tells : Bool) (Opens : List ℕ → List ℕ → Type 0) (index : Index) (name : List ℕ) (old new : PagesView) (result : Result ℕ MakeFault) : Type 0 where
  pub shape : new.store.shape ≡ old.store.shape
  pub depth : new.store.depth ≡ old.store.depth
  pub cause : MakeCause tells name old.store result
  pub faults : IsFalse (is_make_failed result) → (new.store.is_dead ≡ old.store.is_dead) × (new.store.faults ≡ old.store.faults)
  pub dies : IsTrue (is_make_failed result) → (new.store.is_dead ≡ true) × Rose old.store.faults new.store.faults
  pub version : IsTrue tells → OnOk result (version_of new.store.state.bytes ≡ 2)
  pub tables : IsTrue tells → OnOk result (tables_of new.store.state.bytes ≡ with_last (tables_of old.store.state.bytes) name (next_page old.store.state.bytes))
  pub empty : IsTrue tells → OnOk result (index.pairs new.store.state.bytes (next_page old.store.state.bytes) ≡ [])
  pub indexes : IsTrue tells → OnOk result ((table root : ℕ) → IsTable old.store.state.bytes table root → index.pairs new.store.state.bytes root ≡ index.pairs old.store.state.bytes root)
  pub keys : IsTrue tells → OnOk result (keys_of index new.store.state.bytes ≡ with_page (keys_of index old.store.state.bytes))
  pub state : IsTrue tells → OnOk result (state_of index new ≡ after 0 (Control Abort) Fine (state_of index old))
  pub free : OnOk result ((new.store.ranges 0 ≡ None) × (new.counts 0 ≡ []))
  pub same_tables : IsTrue tells → IsFalse (is_make_failed result) → OnErr result (tables_of new.store.state.bytes ≡ tables_of old.store.state.bytes)
  pub same_keys : IsTrue tells → IsFalse (is_make_failed result) → OnErr result (keys_of index new.store.state.bytes ≡ keys_of index old.store.state.bytes)
  pub same_state : IsTrue tells → IsFalse (is_make_failed result) → OnErr result (state_of index new ≡ state_of index old)
  pub same_numbers : IsFalse (is_make_failed result) → OnErr result ((new.store.ranges 0 ≡ old.store.ranges 0) × (new.counts ≡ old.counts))
  pub upgrades : IsTrue tells → OnlyUpgrades old.store.state.bytes new.store.state.bytes result
  pub quiet : IsTrue tells → IsFalse (is_make_failed result) → version_of old.store.state.bytes ≡ 2 → OnErr result (new.store.state.bytes ≡ old.store.state.bytes)
  pub others : (u : ℕ) → u ≢ 0 → (new.store.ranges u ≡ old.store.ranges u) × (new.counts u ≡ old.counts u)
  pub time : IsTrue tells → IsAlive old.store
      → LeavesOnly (λ image. OpensNamed Opens index image (names_of old.store.state.bytes) (state_of index old).table
      ⊎ OpensNamed Opens index image (names_of old.store.state.bytes ++ name ∷ []) (state_of index old).table) old.store new.store
  pub mirrors : Mirrors tells old.store new.store
