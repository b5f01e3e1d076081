-- Which keys may be taken out of the indexes, how they are found, and what taking one out does.
use Rattle.std.specs.Prelude.{ℕ, ◌≡◌, ◌≢◌, ◌^◌, ◌<◌, ◌≤◌, Bool, true, false, IsTrue, IsFalse, List, Option, Some, None, IsSome, Result, Ok, Err}
use Rattle.std.specs.List.{list_any}
use Rattle.std.specs.FinMap.{get}
use Rattle.std.specs.Option.{option_map, unwrap_or}
use Rattle.mars_base.specs.Causes.{Rose}
use Rattle.eaw_face.specs.State.{listed}
use Rattle.eaw_face.specs.StoreView.{LeavesOnly}
use Rattle.eaw_face.specs.Causes.{IsAlive}
use Rattle.record_slots.specs.Places.{version_of, tables_of, root_of}
use Rattle.history.specs.declared.key.Key.{Key}
use Rattle.history.specs.Key.{of_table}
use Rattle.history.specs.Writes.{is_of}
use Rattle.index_keys.specs.Keys.{LosesKey}
use Rattle.page_store.specs.Fits.{FitAll, IsFirstLacking}
use Rattle.page_store.specs.Index.{Index}
use Rattle.page_store.specs.Removes.{IsLogFull}
use Rattle.page_store.specs.Shown.{PagesView}
use Rattle.record_table.specs.Names.{IsCalled, key_in}
use Rattle.record_table.specs.Shown.{table_of, found_key, pairs_of, state_of, keys_of}
use Rattle.record_table.specs.Does.{OpensWith, OpensAs, is_failed}
use Rattle.record_table.specs.declared.fault.TableFault.{TableFault}
use Rattle.record_table.specs.declared.fault.TableFault.TheVariants.{LogFull, Media, Dead, Damaged}
use Rattle.record_table.specs.declared.scanning.Next.{Next}
use Rattle.eaw_face.specs.Mirroring.{Mirrors}

-- the indexes of this data have the key, and the table has no record of it: its slot is absent
abbrev pub IsAbsent : Index → List ℕ → Key → Type 0
IsAbsent index bytes key = IsSome (found_key (pairs_of index bytes) key) × (get (table_of index bytes) key ≡ None)

-- no number has written the key
abbrev pub IsUnwritten : Index → PagesView → Key → Type 0
IsUnwritten index old key = (t : ℕ) → IsFalse (list_any (is_of key) ((state_of index old).logs t).writes)

-- no key of the table of this name from one to below another is absent
abbrev pub HasNoAbsent : Index → List ℕ → List ℕ → ℕ → ℕ → Type 0
HasNoAbsent index bytes name from to = (key : ℕ) → from ≤ key → key < to → IsAbsent index bytes (of_table name key) → ⊥

-- the least key of it from this one on that is absent, if there is one
abbrev pub IsNextAbsent : Index → List ℕ → List ℕ → ℕ → Option ℕ → Type 0
IsNextAbsent index bytes name from None = HasNoAbsent index bytes name from (2 ^ 64)
IsNextAbsent index bytes name from (Some key) = (from ≤ key) × IsAbsent index bytes (of_table name key) × HasNoAbsent index bytes name from key

-- The index of the table of this name has no key from this one on. Or the first is this one, and the table has this record of it, if any.
abbrev pub ComesNext : Index → List ℕ → List ℕ → ℕ → Option Next → Type 0
ComesNext index bytes name from None = (key : ℕ) → from ≤ key → key < 2 ^ 64 → found_key (pairs_of index bytes) (of_table name key) ≡ None
ComesNext index bytes name from (Some next) =
    (from ≤ next.key) × IsSome (found_key (pairs_of index bytes) (of_table name next.key)) × (get (table_of index bytes) (of_table name next.key) ≡ next.value)
    × ((key : ℕ) → from ≤ key → key < next.key → found_key (pairs_of index bytes) (of_table name key) ≡ None)

-- why the search for it gets this answer: over a store that tells its data no page is answered as damaged
abbrev pub SearchCause : {T : Type 0} → Bool → PagesView → Result T TableFault → Type 0
SearchCause tells old (Ok answer) = IsAlive old.store
SearchCause tells old (Err Media) = IsAlive old.store
SearchCause tells old (Err Dead) = old.store.is_dead ≡ true
SearchCause tells old (Err (Damaged page)) = IsAlive old.store × ¬ IsTrue tells
SearchCause tells old (Err fault) = ⊥

-- the pages that the parts of a removal of a key from the index of its table lie in, or none if its pair is the last that its page keeps
abbrev pub removal_in : Index → ℕ → List ℕ → ℕ → Option (List ℕ)
removal_in index table bytes key = unwrap_or (option_map (λ root. index.removal bytes root key) (root_of bytes table)) None

-- the key's pair is the last that its page keeps
abbrev pub IsKept : Index → ℕ → List ℕ → ℕ → Type 0
IsKept index table bytes key = removal_in index table bytes key ≡ None

-- the pair of the key is taken out, by an action with a part in each of these pages
abbrev pub Takes : Index → ℕ → ℕ → PagesView → (List ℕ → Type 0) → Type 0
Takes index table key old Ends = (pages : List ℕ) × (removal_in index table old.store.state.bytes key ≡ Some pages) × Ends pages

-- Why a removal gets this answer. If the store tells its data, each of the first three comes exactly then: the log has room for the action,
-- the pair stays as the last of its page, or the log has no room.
abbrev pub RemoveCause : Bool → Index → ℕ → ℕ → ℕ → PagesView → Result Bool TableFault → Type 0
RemoveCause tells index table t key old (Ok true) = IsAlive old.store × (IsTrue tells → Takes index table key old (FitAll old.store t))
RemoveCause tells index table t key old (Ok false) = IsAlive old.store × (IsTrue tells → IsKept index table old.store.state.bytes key)
RemoveCause tells index table t key old (Err (LogFull g h n)) =
    IsAlive old.store × IsLogFull old.store t g h n × (IsTrue tells → Takes index table key old (λ pages. IsFirstLacking old.store t pages g h n))
RemoveCause tells index table t key old (Err Media) = IsAlive old.store
RemoveCause tells index table t key old (Err Dead) = old.store.is_dead ≡ true
RemoveCause tells index table t key old (Err (Damaged page)) = IsAlive old.store × ¬ IsTrue tells
RemoveCause tells index table t key old (Err fault) = ⊥

-- What it makes of the data: just this key is lost, and a key of any table that stays as the last of its page would stay still; or it is as
-- it was.
pub record Loses (index : Index) (table key : ℕ) (old new : List ℕ) : Type 0 where
  pub keys : LosesKey (key_in old table key) (keys_of index old) (keys_of index new)
  pub kept : (number one : ℕ) (name : List ℕ) → IsCalled old number name → IsSome ((keys_of index new).slot_of (of_table name one)) → IsKept index number old one → IsKept index number new one

abbrev pub Lost : Index → ℕ → ℕ → List ℕ → List ℕ → Result Bool TableFault → Type 0
Lost index table key old new (Ok true) = Loses index table key old new
Lost index table key old new (Err Media) = Unit {0}
Lost index table key old new result = new ≡ old

-- Taking a key of a table out of its index, as number t. The records of all tables, and what every number has written and saved, are as they
-- were, and so are version and tables; the data stays sound. Media leaves the store dead. At each moment of a store that was not dead, a loss of
-- power leaves what it might have left before, or an image that opens with the records.
pub record Removes (tells : Bool) (Opens : List ℕ → List ℕ → Type 0) (index : Index) (table t key : ℕ) (old new : PagesView) (result : Result Bool TableFault) : Type 0 where
  pub shape : new.store.shape ≡ old.store.shape
  pub depth : new.store.depth ≡ old.store.depth
  pub cause : RemoveCause tells index table t key old result
  pub faults : IsFalse (is_failed result) → (new.store.is_dead ≡ old.store.is_dead) × (new.store.faults ≡ old.store.faults)
  pub dies : IsTrue (is_failed result) → (new.store.is_dead ≡ true) × Rose old.store.faults new.store.faults
  pub state : IsTrue tells → IsFalse (is_failed result) → state_of index new ≡ state_of index old
  pub lost : IsTrue tells → IsAlive old.store → Lost index table key old.store.state.bytes new.store.state.bytes result
  pub version : IsTrue tells → IsFalse (is_failed result) → version_of new.store.state.bytes ≡ version_of old.store.state.bytes
  pub tables : IsTrue tells → IsFalse (is_failed result) → tables_of new.store.state.bytes ≡ tables_of old.store.state.bytes
  pub sound : IsTrue tells → IsAlive new.store → index.sound new.store.state.bytes
  pub saves : new.counts ≡ old.counts
  pub ranges : IsFalse (is_failed result) → (u : ℕ) → listed (new.store.ranges u) ≡ listed (old.store.ranges u)
  pub others : (u : ℕ) → u ≢ t → new.store.ranges u ≡ old.store.ranges u
  pub time : IsTrue tells → IsAlive old.store → LeavesOnly (λ image. OpensWith Opens index image (state_of index old).table) old.store new.store
  pub named : IsTrue tells → IsAlive old.store → LeavesOnly (λ image. OpensAs Opens index image old.store.state.bytes (state_of index old).table) old.store new.store
  pub mirrors : Mirrors tells old.store new.store
