-- What a purge does to the records, given the live transactions.
use Rattle.std.specs.Prelude.{ℕ, ◌≡◌, ◌<◌, ◌≤◌, ◌^◌, ◌⊎◌, Bool, true, false, IsTrue, IsFalse, List, [], ◌∷◌, length, slice_get, Some, IsSome, Result, Ok, Err, IfOk}
use Rattle.mars_base.specs.Causes.{Rose}
use Rattle.eaw_face.specs.State.{listed}
use Rattle.eaw_face.specs.StoreView.{LeavesOnly}
use Rattle.eaw_face.specs.Causes.{IsAlive}
use Rattle.history.specs.declared.key.Key.{Key}
use Rattle.history.specs.Locks.{Meets}
use Rattle.history.specs.Log.{log_of}
use Rattle.history.specs.declared.call.TableCall.TheVariants.{Del}
use Rattle.page_store.specs.Index.{Index, slots_of}
use Rattle.page_store.specs.Shown.{PagesView}
use Rattle.record_slots.specs.Places.{version_of, used_slots, tables_of}
use Rattle.record_table.specs.Does.{OpensAs, is_failed}
use Rattle.record_table.specs.Names.{IsCalled, names_of}
use Rattle.record_table.specs.Removing.{IsAbsent, IsKept, Loses}
use Rattle.record_table.specs.Shown.{state_of}
use Rattle.record_table.specs.declared.fault.TableFault.{TableFault}
use Rattle.record_table.specs.declared.fault.TableFault.TheVariants.{Media, Damaged}
use Rattle.caller_steps.specs.Purging.{Try, lost_among, IsTried, Each, AreInOrder, Lost}
use Rattle.mars_core.specs.Over.{index_of}
use Rattle.mars_core.specs.Seats.{Seats, calls_at}
use Rattle.eaw_face.specs.Mirroring.{Mirrors}

-- the index of the key's table keeps its pair, as the last of its page
abbrev pub Keeps : Index → List ℕ → Key → Type 0
Keeps index bytes key = (table : ℕ) × IsCalled bytes table key.table × IsKept index table bytes key.key

-- a live transaction touches the stripe of this key
abbrev pub IsTouchedIn : Seats → Key → Type 0
IsTouchedIn seats key = (caller : ℕ) × Meets seats.names (Del key.table key.key) (calls_at seats caller)

-- these keys have no record in the data, and no live transaction touches them
abbrev pub AreFreeIn : Index → Seats → List ℕ → List Key → Type 0
AreFreeIn index seats bytes [] = Unit {0}
AreFreeIn index seats bytes (key ∷ keys) = (IsAbsent index bytes key × (IsTouchedIn seats key → ⊥)) × AreFreeIn index seats bytes keys

-- a key of the table of this name, below a number
abbrev pub IsBelow : List ℕ → ℕ → Key → Type 0
IsBelow name to key = (key.table ≡ name) × (key.key < to)

-- any key of it
abbrev pub IsOfTable : List ℕ → Key → Type 0
IsOfTable name key = IsBelow name (2 ^ 64) key

-- a key of one of the first n tables
abbrev pub IsOfFirst : List (List ℕ) → ℕ → Key → Type 0
IsOfFirst names n key = (j : ℕ) × (j < n) × (slice_get names j ≡ Some key.table) × (key.key < 2 ^ 64)

-- what comes of one key: it is lost, and no live transaction touched it; or the data is as it was, and one did, or the index keeps it
abbrev pub Tried : Index → Seats → ℕ → Key → List ℕ → List ℕ → Bool → Type 0
Tried index seats table key old new true = (IsTouchedIn seats key → ⊥) × (IsKept index table old key.key → ⊥) × Loses index table key.key old new
Tried index seats table key old new false = (new ≡ old) × (IsTouchedIn seats key ⊎ Keeps index old key)

-- so it was with a key of a table of sound data
pub record TriedIn (index : Index) (seats : Seats) (one : Try) (old new : List ℕ) : Type 0 where
  pub sound : index.sound old
  pub table : ℕ
  pub called : IsCalled old table one.0.table
  pub named : names_of new ≡ names_of old
  pub comes : Tried index seats table one.0 old new one.1

-- and with keys one after another, the last one first
abbrev pub Trail : Index → Seats → List ℕ → List Try → List ℕ → Type 0
Trail index seats first [] now = now ≡ first
Trail index seats first (one ∷ tries) now = (before : List ℕ) × Trail index seats first tries before × TriedIn index seats one before now

-- Of n keys the indexes have lost each. A pair that was kept is kept still, if it is there. Each key that was passed, has no record and is
-- still in the indexes is touched, or kept. The keys that were passed were tried in order.
pub record Cleared (index : Index) (seats : Seats) (Passed : Key → Type 0) (n : ℕ) (old new : List ℕ) : Type 0 where
  pub keys : List Key
  pub count : n ≡ length keys
  pub free : AreFreeIn index seats old keys
  pub lost : Lost (index_of index old) keys (index_of index new)
  pub kept : (key : Key) → IsSome ((index_of index new).keys.slot_of key) → Keeps index old key → Keeps index new key
  pub left : (key : Key) → Passed key → IsAbsent index new key → IsTouchedIn seats key ⊎ Keeps index new key
  pub tried : List Try
  pub keys_are : keys ≡ lost_among tried
  pub passed : Each Passed tried
  pub order : AreInOrder seats.names tried
  pub absent : Each (IsAbsent index old) tried
  pub all : (key : Key) → Passed key → IsAbsent index new key → IsTried key tried
  pub trail : Trail index seats old tried new

-- What a purge rests on: the data is a sound index, the super page is of version 2, its tables have the names that callers ask for, the
-- records have the logs of the callers' calls, and no more slots are in use than there are.
pub record IsReady (index : Index) (seats : Seats) (t : ℕ) (p : PagesView) : Type 0 where
  pub sound : index.sound p.store.state.bytes
  pub version : version_of p.store.state.bytes ≡ 2
  pub named : names_of p.store.state.bytes ≡ seats.names
  pub logs : (caller : ℕ) → (state_of index p).logs caller ≡ log_of (calls_at seats caller)
  pub slots : used_slots p.store.state.bytes ≤ slots_of p.store.shape

-- a caller that may purge: it has no live transaction, nothing is logged of it, and the store is not dead
pub record MayPurge (tells : Bool) (index : Index) (seats : Seats) (t : ℕ) (p : PagesView) : Type 0 where
  pub inside : t < p.store.shape.numbers
  pub few : length seats.places ≤ 64
  pub alive : IsAlive p.store
  pub idle : calls_at seats t ≡ []
  pub unheld : listed (p.store.ranges t) ≡ []
  pub ready : IsTrue tells → IsReady index seats t p

-- what may stop it: a fault of the medium, or a page that breaks the layout, where the store does not tell its data
abbrev pub ClearCause : {T : Type 0} → Bool → Result T TableFault → Type 0
ClearCause tells (Ok n) = Unit {0}
ClearCause tells (Err Media) = Unit {0}
ClearCause tells (Err (Damaged page)) = ¬ IsTrue tells
ClearCause tells (Err fault) = ⊥

-- Records, writes and saves are as they were, unless the medium failed, and what might be left meanwhile has these records.
pub record Spares (tells : Bool) (Opens : List ℕ → List ℕ → Type 0) (index : Index) (old new : PagesView) (failed : Bool) : Type 0 where
  pub shape : new.store.shape ≡ old.store.shape
  pub depth : new.store.depth ≡ old.store.depth
  pub faults : IsFalse failed → (new.store.is_dead ≡ old.store.is_dead) × (new.store.faults ≡ old.store.faults)
  pub dies : IsTrue failed → (new.store.is_dead ≡ true) × Rose old.store.faults new.store.faults
  pub state : IsTrue tells → IsFalse failed → state_of index new ≡ state_of index old
  pub ranges : IsFalse failed → (u : ℕ) → listed (new.store.ranges u) ≡ listed (old.store.ranges u)
  pub saves : IsFalse failed → new.counts ≡ old.counts
  pub sound : IsTrue tells → IsAlive new.store → index.sound new.store.state.bytes
  pub time : IsTrue tells → LeavesOnly (λ image. OpensAs Opens index image old.store.state.bytes (state_of index old).table) old.store new.store
  pub mirrors : Mirrors tells old.store new.store

-- One key of the table with this number was tried. All that a purge rests on is as it was.
pub record Tries (tells : Bool) (Opens : List ℕ → List ℕ → Type 0) (index : Index) (seats : Seats) (table : ℕ) (key : Key) (old new : PagesView) (result : Result Bool TableFault) : Type 0 where
  pub spares : Spares tells Opens index old new (is_failed result)
  pub cause : ClearCause tells result
  pub version : IsTrue tells → IsFalse (is_failed result) → version_of new.store.state.bytes ≡ version_of old.store.state.bytes
  pub tables : IsTrue tells → IsFalse (is_failed result) → tables_of new.store.state.bytes ≡ tables_of old.store.state.bytes
  pub called : IsTrue tells → IsCalled old.store.state.bytes table key.table
  pub small : key.key < 2 ^ 64
  pub tried : IsTrue tells → IfOk result (Tried index seats table key old.store.state.bytes new.store.state.bytes)

-- Each key that was to be passed and has no record was tried once, but those that a live transaction touches. All that a purge rests on is so still.
pub record Clears (tells : Bool) (Opens : List ℕ → List ℕ → Type 0) (index : Index) (seats : Seats) (t : ℕ) (Passed : Key → Type 0) (old new : PagesView) (result : Result ℕ TableFault) : Type 0 where
  pub spares : Spares tells Opens index old new (is_failed result)
  pub cause : ClearCause tells result
  pub ready : IsTrue tells → IfOk result (λ n. IsReady index seats t new)
  pub cleared : IsTrue tells → IfOk result (λ n. Cleared index seats Passed n old.store.state.bytes new.store.state.bytes)
