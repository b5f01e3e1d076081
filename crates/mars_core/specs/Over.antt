-- A core over a store: what it shows of it, and how it begins.
use Rattle.std.specs.Prelude.{ℕ, ◌≡◌, ◌-◌, ◌%◌, Bool, false, IsTrue, nat_eq, List, [], map, filter, length, None, is_none, unwrap_or, option_map}
use Rattle.array_shape.specs.declared.shape.Shape.{Shape}
use Rattle.eaw_face.specs.State.{listed}
use Rattle.eaw_face.specs.StoreView.{StoreView, LeavesOnly}
use Rattle.eaw_face.specs.Causes.{IsAlive}
use Rattle.page_store.specs.Index.{Index, slots_of, index_pages_of}
use Rattle.page_store.specs.Index as below
use Rattle.record_slots.specs.Places.{version_of, next_slot, next_page, free_slots, free_pages, slot_due}
use Rattle.history.specs.declared.key.Key.{Key}
use Rattle.history.specs.Writes.{Table, all_written}
use Rattle.record_table.specs.Names.{names_of, root_named}
use Rattle.record_table.specs.Shown.{pairs_of, found_key, table_of, keys_of, logger_of_slot, writes_of}
use Rattle.record_table.specs.Upgrading.{upgraded, OpensUpgraded}
use Rattle.caller_steps.specs.State as face
use Rattle.caller_steps.specs.Room as room
use Rattle.caller_steps.specs.State.{unoffered, opened, records_of, view_of}
use Rattle.caller_steps.specs.Room.{Limits}
use Rattle.caller_steps.specs.Core.{CoreView}
use Rattle.eaw_face.specs.Mirroring.{Mirrors}

-- the index of the table of a key keeps the pair of the key, as the last of its page; none does if this data has no such table
abbrev pub keeps_in : Index → List ℕ → Key → Bool
keeps_in index bytes key = unwrap_or (option_map (λ root. is_none (index.removal bytes root key.key)) (root_named bytes key.table)) false

-- The actions of the insertion of a key into the index of its table, as callers count them: a part in each of its pages, which are dealt to the loggers by
-- turns. None if this data has no such table.
abbrev pub actions_for : Index → Shape → List ℕ → Key → List room.Action
actions_for index shape bytes key =
    map (λ (action : below.Action). record { takes = action.takes; needs = λ g. length (filter (λ page. nat_eq (page % shape.loggers) g) action.pages) })
    (unwrap_or (option_map (λ root. index.actions bytes root key.key) (root_named bytes key.table)) [])

-- the indexes of all tables in the data, and the data, as callers see them; a name of no table has no levels of inner pages
abbrev pub index_of : Index → List ℕ → face.Index
index_of index bytes = record {
  keys = record {
    slot_of = found_key (pairs_of index bytes);
    due = slot_due bytes;
    used_slots = next_slot bytes - free_slots bytes;
    used_pages = next_page bytes - free_pages bytes;
    next_page = next_page bytes;
    levels = λ name. unwrap_or (option_map (index.level bytes) (root_named bytes name)) 0;
  };
  bytes = bytes;
}

-- the limits of an array of this shape, where so many commits may wait for their write-back, under an index
abbrev pub limits_of : Index → Shape → ℕ → Limits
limits_of index shape depth = record {
  callers = shape.numbers;
  slots = slots_of shape;
  index_pages = index_pages_of shape;
  loggers = shape.loggers;
  entries = shape.entries;
  depth = depth;
  logger_of = logger_of_slot shape;
  keeps = keeps_in index;
  actions = actions_for index shape;
  says = λ bytes. (names_of bytes, table_of index bytes, index_of index bytes);
}

-- the data of a state shows it: under the index it is sound, and it has the names, the records and the keys
pub record ShowsAll (index : Index) (state : face.State) : Type 0 where
  pub sound : index.sound state.index.bytes
  pub names : names_of state.index.bytes ≡ state.names
  pub table : table_of index state.index.bytes ≡ records_of state
  pub keys : state.index ≡ index_of index state.index.bytes

-- an image opens with sound data of version 2, whose tables have these names and these records
pub record OpensWithTables (Opens : List ℕ → List ℕ → Type 0) (index : Index) (names : List (List ℕ)) (image : List ℕ) (table : Table) : Type 0 where
  pub bytes : List ℕ
  pub opened : Opens image bytes
  pub sound : index.sound bytes
  pub version : version_of bytes ≡ 2
  pub named : names_of bytes ≡ names
  pub shows : table_of index bytes ≡ table

-- What is logged for a caller, written into the records of the data, is what the caller sees.
abbrev pub LeavesView : Index → StoreView → face.State → ℕ → Type 0
LeavesView index store state caller =
    all_written (table_of index store.state.bytes) (writes_of store.state.bytes (listed (store.state.logs caller))) ≡ (view_of state caller).table

-- The core shows its store. While the store is not dead, its data is a sound index with the records of the history, and what is logged over it
-- leaves each caller's view.
pub record IsOver (tells : Bool) (Opens : List ℕ → List ℕ → Type 0) (index : Index) (store : StoreView) (core : CoreView) : Type 0 where
  pub limits : core.limits ≡ limits_of index store.shape store.depth
  pub faults : core.faults ≡ store.faults
  pub moment : core.moment ≡ store.moment
  pub left : (since : ℕ) (image : List ℕ) → (store.left_since since image → core.left_since since image) × (core.left_since since image → store.left_since since image)
  pub opens_to : (image : List ℕ) (table : Table) → (OpensWithTables Opens index core.state.names image table → core.opens image table)
      × (core.opens image table → OpensWithTables Opens index core.state.names image table)
  pub dead : core.state.is_dead ≡ store.is_dead
  pub keys : IsTrue tells → core.state.index ≡ index_of index store.state.bytes
  pub sound : IsTrue tells → IsAlive store → index.sound store.state.bytes
  pub names : IsTrue tells → IsAlive store → names_of store.state.bytes ≡ core.state.names
  pub table : IsTrue tells → IsAlive store → table_of index store.state.bytes ≡ records_of core.state
  pub views : IsTrue tells → IsAlive store → (caller : ℕ) → LeavesView index store core.state caller

-- The core begins with the records of the store's data, which is a sound index, and has brought that data to version 2. Whatever a loss of
-- power might have left meanwhile opens with the data as it was or in version 2, which have the same records and keys.
pub record Begins (tells : Bool) (Opens : List ℕ → List ℕ → Type 0) (index : Index) (old new : StoreView) (core : CoreView) : Type 0 where
  pub over : IsOver tells Opens index new core
  pub alive : IsAlive new
  pub faults : new.faults ≡ old.faults
  pub shape : new.shape ≡ old.shape
  pub depth : new.depth ≡ old.depth
  pub state : IsTrue tells → core.state ≡ opened (names_of old.state.bytes) (table_of index old.state.bytes) (index_of index (upgraded old.state.bytes))
  pub fresh : (core.state.history ≡ []) × ((caller : ℕ) → core.state.live caller ≡ None) × (core.state.doubt ≡ []) × ((caller : ℕ) → core.state.offers caller ≡ unoffered)
  pub sound : IsTrue tells → index.sound old.state.bytes
  pub bytes : IsTrue tells → new.state.bytes ≡ upgraded old.state.bytes
  pub version : IsTrue tells → version_of new.state.bytes ≡ 2
  pub keys : IsTrue tells → keys_of index new.state.bytes ≡ keys_of index old.state.bytes
  pub time : IsTrue tells → LeavesOnly (OpensUpgraded Opens old.state.bytes) old new
  pub mirrors : Mirrors tells old new
