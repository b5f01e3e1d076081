-- The invariant of records.
use Rattle.std.specs.Prelude.{ℕ, ◌≡◌, Bool, IsTrue, List, [], ◌∷◌, length, Some, None}
use Rattle.array_shape.specs.Logged.{Part}
use Rattle.eaw_face.specs.State.{listed}
use Rattle.eaw_face.specs.Causes.{IsAlive}
use Rattle.record_slots.specs.Slots.{slot_said}
use Rattle.record_slots.specs.Places.{slot_at, IsOfKey}
use Rattle.page_store.specs.Index.{Index}
use Rattle.page_store.specs.Shown.{PagesView}
use Rattle.record_table.specs.Names.{IsCalled}
use Rattle.record_table.specs.Shown.{found_key, pairs_of, write_of}

-- a logged part is a whole slot, that of the key of the table that it names
pub record IsSlotPart (index : Index) (bytes : List ℕ) (part : Part) : Type 0 where
  pub slot : ℕ
  pub named : found_key (pairs_of index bytes) (write_of bytes part).0 ≡ Some slot
  pub place : part.0 ≡ slot_at bytes slot
  pub size : length part.1 ≡ 64
  pub table : ℕ
  pub key : ℕ
  pub called : IsCalled bytes table (write_of bytes part).0.table
  pub says : IsOfKey table key (slot_said part.1)

abbrev pub AreSlotParts : Index → List ℕ → List Part → Type 0
AreSlotParts index bytes [] = Unit {0}
AreSlotParts index bytes (part ∷ parts) = IsSlotPart index bytes part × AreSlotParts index bytes parts

-- the data is a sound index, and the logged parts are slots of its keys
pub record IsTied (index : Index) (pages : PagesView) : Type 0 where
  pub sound : index.sound pages.store.state.bytes
  pub parts : (t : ℕ) → AreSlotParts index pages.store.state.bytes (listed (pages.store.state.logs t))

-- no nested top action is open, and if the store tells its data, the logged parts are tied to it
pub record Rests (tells : Bool) (index : Index) (pages : PagesView) : Type 0 where
  pub closed : (t : ℕ) → pages.top t ≡ None
  pub tied : IsTrue tells → IsTied index pages

-- all this while the store is not dead
abbrev pub Holds : Bool → Index → PagesView → Type 0
Holds tells index pages = IsAlive pages.store → Rests tells index pages
