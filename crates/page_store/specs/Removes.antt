-- What a removal does, and when each answer comes.
use Rattle.std.specs.Prelude.{ℕ, suc, ◌≡◌, ◌≢◌, ◌≤◌, ◌⊎◌, Bool, true, false, IsTrue, IsFalse, List, length, Some, None, IsSome, Result, Ok, Err}
use Rattle.mars_base.specs.Causes.{Rose}
use Rattle.eaw_face.specs.StoreView.{StoreView, LeavesOnly}
use Rattle.eaw_face.specs.Mirroring.{Mirrors}
use Rattle.eaw_face.specs.Causes.{IsAlive}
use Rattle.record_slots.specs.Slots.{slot_said}
use Rattle.record_slots.specs.Places.{slot_of, next_slot, next_page, version_of, tables_of, free_slot, free_page, free_slots, free_pages, free_slot_of, free_page_of}
use Rattle.record_slots.specs.declared.slot.Slot.TheVariants.{Absent}
use Rattle.page_store.specs.Fits.{FitAll, IsFirstLacking}
use Rattle.page_store.specs.Index.{Index, IsTable, IsUntouched, IsFreePage}
use Rattle.page_store.specs.Inserts.{KeepsLogs}
use Rattle.page_store.specs.Looks.{is_failed}
use Rattle.page_store.specs.Pairs.{found, removed}
use Rattle.page_store.specs.Shown.{PagesView}
use Rattle.page_store.specs.declared.fault.PageFault.{PageFault}
use Rattle.page_store.specs.declared.fault.PageFault.TheVariants.{LogFull, Media, Dead, Damaged}

-- the index of this root has a pair of the key, whose slot is absent under the key of the table
abbrev pub HasAbsent : Index → ℕ → ℕ → ℕ → List ℕ → Type 0
HasAbsent index root table key bytes = (slot : ℕ) × (found (index.pairs bytes root) key ≡ Some slot) × (slot_said (slot_of bytes slot) ≡ Some (Absent table key))

-- the pair of the key is taken out, by an action with a part in each of these pages
abbrev pub Takes : Index → ℕ → ℕ → StoreView → (List ℕ → Type 0) → Type 0
Takes index root key old Ends = (pages : List ℕ) × (index.removal old.state.bytes root key ≡ Some pages) × Ends pages

-- at logger g at most five parts find no room
abbrev pub IsLogFull : StoreView → ℕ → ℕ → ℕ → ℕ → Type 0
IsLogFull old t g h n = (pages : List ℕ) × (length pages ≤ 5) × IsFirstLacking old t pages g h n

-- why a removal gets this answer; over a store that tells its data, each of the first three comes exactly then
abbrev pub RemoveCause : Bool → Index → ℕ → ℕ → ℕ → StoreView → Result Bool PageFault → Type 0
RemoveCause tells index t root key old (Ok true) = IsAlive old × (IsTrue tells → Takes index root key old (FitAll old t))
RemoveCause tells index t root key old (Ok false) = IsAlive old × (IsTrue tells → index.removal old.state.bytes root key ≡ None)
RemoveCause tells index t root key old (Err (LogFull g h n)) =
    IsAlive old × IsLogFull old t g h n × (IsTrue tells → Takes index root key old (λ pages. IsFirstLacking old t pages g h n))
RemoveCause tells index t root key old (Err Media) = IsAlive old
RemoveCause tells index t root key old (Err Dead) = old.is_dead ≡ true
RemoveCause tells index t root key old (Err (Damaged page)) = IsAlive old × ¬ IsTrue tells
RemoveCause tells index t root key old (Err _) = ⊥

-- the slot is free now, and the first in the list of free slots; behind it come those that were free
pub record FreesSlot (slot : ℕ) (old new : List ℕ) : Type 0 where
  pub first : free_slot new ≡ suc slot
  pub more : free_slots new ≡ suc (free_slots old)
  pub says : free_slot_of new slot ≡ Some (record { next = free_slot old; rank = suc (free_slots old) })

-- the same of a page
pub record FreesPage (page : ℕ) (old new : List ℕ) : Type 0 where
  pub first : free_page new ≡ suc page
  pub more : free_pages new ≡ suc (free_pages old)
  pub says : free_page_of new page ≡ Some (record { next = free_page old; rank = suc (free_pages old) })

-- the free pages are as they were
pub record KeepsFreePages (old new : List ℕ) : Type 0 where
  pub first : free_page new ≡ free_page old
  pub many : free_pages new ≡ free_pages old

-- Data after the removal of a key from the index of this root, whose pair had this slot. It is sound, of the same version, with the same
-- tables, and lacks just that pair; the index of each other table is untouched, and so is each other slot. The slot is free now. Nothing
-- more is given out. At most one page was freed, one of the index: each page that it had is still its own, or is free, and it has no other.
-- It has as many levels as it had. And a pair that is left, and would have stayed as the last of its page, would stay still.
pub record Shrinks (index : Index) (root key slot : ℕ) (old new : List ℕ) : Type 0 where
  pub sound : index.sound new
  pub size : length new ≡ length old
  pub version : version_of new ≡ version_of old
  pub tables : tables_of new ≡ tables_of old
  pub others : (table other : ℕ) → IsTable old table other → other ≢ root → IsUntouched index other old new
  pub pairs : index.pairs new root ≡ removed (index.pairs old root) key
  pub slots : (other : ℕ) → other ≢ slot → slot_of new other ≡ slot_of old other
  pub freed : FreesSlot slot old new
  pub next_slot_same : next_slot new ≡ next_slot old
  pub next_page_same : next_page new ≡ next_page old
  pub freed_page : KeepsFreePages old new ⊎ ((page : ℕ) × index.has_page old root page × FreesPage page old new)
  pub kept : (page : ℕ) → index.has_page old root page → index.has_page new root page ⊎ IsFreePage new page
  pub named : (page : ℕ) → index.has_page new root page → index.has_page old root page
  pub levels : index.level new root ≡ index.level old root
  pub last : (table other one : ℕ) → IsTable old table other → IsSome (found (index.pairs new other) one) → index.removal old other one ≡ None → index.removal new other one ≡ None

-- data that lacks the pair of the key
abbrev pub LosesKey : Index → ℕ → ℕ → List ℕ → List ℕ → Type 0
LosesKey index root key old new = (slot : ℕ) × (found (index.pairs old root) key ≡ Some slot) × Shrinks index root key slot old new

-- What it makes of the data of a store that tells it: the pair is taken out, or the data is as it was.
abbrev pub Removed : Index → ℕ → ℕ → List ℕ → List ℕ → Result Bool PageFault → Type 0
Removed index root key old new (Ok true) = LosesKey index root key old new
Removed index root key old new (Err Media) = Unit {0}
Removed index root key old new _ = new ≡ old

-- A removal of a key from the index of this root, as number t. Saves stay, and other numbers keep what they have logged, whatever the
-- answer; so does t itself, except at a fault of the medium, which leaves the store dead. A loss of power during it, if the store was not
-- dead, leaves what it might have left before, or an image that opens with the data before it or with data that lacks the pair. What the
-- store sends is added at the end of what it has sent, and gives its data.
pub record Removes (tells : Bool) (Opens : List ℕ → List ℕ → Type 0) (index : Index) (t root key : ℕ) (old new : PagesView) (result : Result Bool PageFault) : Type 0 where
  pub shape : new.store.shape ≡ old.store.shape
  pub depth : new.store.depth ≡ old.store.depth
  pub cause : RemoveCause tells index t root key old.store result
  pub saves : new.counts ≡ old.counts
  pub others : (u : ℕ) → u ≢ t → new.store.ranges u ≡ old.store.ranges u
  pub kept : IsFalse (is_failed result) → KeepsLogs tells old new
  pub made : IsTrue tells → IsAlive old.store → Removed index root key old.store.state.bytes new.store.state.bytes result
  pub dies : IsTrue (is_failed result) → (new.store.is_dead ≡ true) × Rose old.store.faults new.store.faults
  pub time : IsTrue tells → IsAlive old.store
      → LeavesOnly (λ image. Opens image old.store.state.bytes ⊎ ((bytes : List ℕ) × Opens image bytes × LosesKey index root key old.store.state.bytes bytes)) old.store new.store
  pub mirrors : Mirrors tells old.store new.store
