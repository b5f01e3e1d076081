-- What a call on records does.
use Rattle.std.specs.Prelude.{ℕ, ◌≡◌, ◌≢◌, ◌≤◌, ◌⊎◌, Bool, true, false, IsTrue, IsFalse, List, [], length, Option, Some, None, IsSome, Result, Ok, Err, IfOk, OnOk, OnErr}
use Rattle.mars_base.specs.Causes.{Rose}
use Rattle.eaw_face.specs.StoreView.{LeavesOnly}
use Rattle.eaw_face.specs.Causes.{IsAlive}
use Rattle.history.specs.declared.key.Key.{Key}
use Rattle.history.specs.Key.{of_table}
use Rattle.history.specs.Writes.{Table}
use Rattle.history.specs.declared.call.Call.{Call}
use Rattle.history.specs.declared.call.Call.TheVariants.{Table as OnTable, Control}
use Rattle.history.specs.declared.call.TableCall.TheVariants.{Put}
use Rattle.history.specs.declared.call.Control.TheVariants.{Commit}
use Rattle.history.specs.declared.call.Reply.{Reply}
use Rattle.index_keys.specs.Keys.{GainsKey, KeepsKeys, TakesPages}
use Rattle.record_slots.specs.Places.{version_of, tables_of}
use Rattle.page_store.specs.Index.{Index}
use Rattle.page_store.specs.Shown.{PagesView}
use Rattle.record_table.specs.State.{Keys}
use Rattle.record_table.specs.Calls.{Replies, table_after, after, saves_after}
use Rattle.record_table.specs.Names.{names_of}
use Rattle.record_table.specs.Shown.{table_of, state_of, keys_of}
use Rattle.record_table.specs.Causes.{Cause, slot_in}
use Rattle.record_table.specs.declared.fault.TableFault.{TableFault}
use Rattle.record_table.specs.declared.fault.TableFault.TheVariants.{LogFull, PagesFull, Media}
use Rattle.eaw_face.specs.Mirroring.{Mirrors}

-- an image opens with sound data whose tables have these records
pub record OpensWith (Opens : List ℕ → List ℕ → Type 0) (index : Index) (image : List ℕ) (table : Table) : Type 0 where
  pub bytes : List ℕ
  pub opened : Opens image bytes
  pub sound : index.sound bytes
  pub shows : table_of index bytes ≡ table

-- so, and its tables have these names
pub record OpensNamed (Opens : List ℕ → List ℕ → Type 0) (index : Index) (image : List ℕ) (names : List (List ℕ)) (table : Table) : Type 0 where
  pub bytes : List ℕ
  pub opened : Opens image bytes
  pub sound : index.sound bytes
  pub named : names_of bytes ≡ names
  pub shows : table_of index bytes ≡ table

-- An image opens as this data does: with sound data, of version 2 if this is, whose tables have its names, and these records.
pub record OpensAs (Opens : List ℕ → List ℕ → Type 0) (index : Index) (image old : List ℕ) (table : Table) : Type 0 where
  pub bytes : List ℕ
  pub opened : Opens image bytes
  pub sound : index.sound bytes
  pub version : version_of old ≡ 2 → version_of bytes ≡ 2
  pub named : names_of bytes ≡ names_of old
  pub shows : table_of index bytes ≡ table

-- an answer of records as a reply
abbrev pub replied : {T : Type 0} → (T → Reply) → Result T TableFault → Result Reply TableFault
replied reply (Ok answer) = Ok (reply answer)
replied reply (Err fault) = Err fault

-- the medium failed
abbrev pub is_failed : {T : Type 0} → Result T TableFault → Bool
is_failed (Err Media) = true
is_failed _ = false

-- What an insertion that was due makes of the index. If the log is full after the insertion, the key stays. If pages ran out, at most one
-- is left, or the index has as many levels as it may.
abbrev pub Inserted : {T : Type 0} → ℕ → Key → Keys → Keys → Result T TableFault → Type 0
Inserted table key old new (Ok answer) = TakesPages old new × GainsKey key old new
Inserted table key old new (Err (LogFull g h n)) = TakesPages old new × (KeepsKeys old new ⊎ GainsKey key old new)
Inserted table key old new (Err (PagesFull n)) = TakesPages old new × KeepsKeys old new × ((n ≤ new.used_pages) ⊎ (7 ≤ new.levels table))
Inserted table key old new (Err _) = TakesPages old new × KeepsKeys old new

abbrev pub IndexedAt : {T : Type 0} → ℕ → Key → Option ℕ → Keys → Keys → Result T TableFault → Type 0
IndexedAt table key None old new result = Inserted table key old new result
IndexedAt table key (Some slot) old new result = new ≡ old

-- what a call makes of the indexes: a put of a key that they lack inserts the key into that of its table
abbrev pub Indexed : {T : Type 0} → ℕ → Call → Keys → Keys → Result T TableFault → Type 0
Indexed table (OnTable (Put name key value)) old new result = IndexedAt table (of_table name key) (old.slot_of (of_table name key)) old new result
Indexed table call old new result = new ≡ old

-- the call writes nothing into the data: a put does where the index lacks the key, and a commit what the number has written
abbrev pub IsQuiet : Index → PagesView → ℕ → Call → Type 0
IsQuiet index old t (OnTable (Put name key value)) = IsSome (slot_in index old (of_table name key))
IsQuiet index old t (Control Commit) = ((state_of index old).logs t).writes ≡ []
IsQuiet index old t call = Unit {0}

-- A caller's call as number t on a table, which it names, on records over a store whose images open as Opens says. Each answer has its cause. An
-- Ok is answered as the model says, leaves what it says, and hides no fault. After a refusal other than Media, the records and the logs of every
-- number are as before, and the tables always; data of version 2 stays so. Media leaves the store dead. A call that writes nothing into the data
-- leaves it byte for byte, also if it is refused. Other numbers keep what they have logged, whatever the answer. At each moment of a store that
-- was not dead, a loss of power leaves what it might have left before, or an image that opens with the records before the call or after it, under
-- the names that the tables have, and in version 2 if the data is.
pub record Does (tells : Bool) (Opens : List ℕ → List ℕ → Type 0) (index : Index) (table t : ℕ) (call : Call) (old new : PagesView) (result : Result Reply TableFault) : Type 0 where
  pub shape : new.store.shape ≡ old.store.shape
  pub depth : new.store.depth ≡ old.store.depth
  pub cause : Cause tells index table t call old result
  pub faults : IsFalse (is_failed result) → (new.store.is_dead ≡ old.store.is_dead) × (new.store.faults ≡ old.store.faults)
  pub dies : IsTrue (is_failed result) → (new.store.is_dead ≡ true) × Rose old.store.faults new.store.faults
  pub replies : IsTrue tells → IfOk result (Replies (state_of index old) t call)
  pub done : IsTrue tells → IfOk result (λ reply. state_of index new ≡ after t call reply (state_of index old))
  pub refused : IsTrue tells → IsFalse (is_failed result) → OnErr result (state_of index new ≡ state_of index old)
  pub indexed : IsTrue tells → IsAlive old.store → IsFalse (is_failed result) → Indexed table call (keys_of index old.store.state.bytes) (keys_of index new.store.state.bytes) result
  pub quiet : IsTrue tells → IsFalse (is_failed result) → IsQuiet index old t call → new.store.state.bytes ≡ old.store.state.bytes
  pub version : IsTrue tells → IsFalse (is_failed result) → version_of old.store.state.bytes ≡ 2 → version_of new.store.state.bytes ≡ 2
  pub tables : IsTrue tells → IsFalse (is_failed result) → tables_of new.store.state.bytes ≡ tables_of old.store.state.bytes
  pub saves : OnOk result (length (new.counts t) ≡ saves_after call (length (old.counts t)))
  pub same_saves : OnErr result (new.counts ≡ old.counts)
  pub others : (u : ℕ) → u ≢ t → (new.store.ranges u ≡ old.store.ranges u) × (new.counts u ≡ old.counts u)
  pub time : IsTrue tells → IsAlive old.store
      → LeavesOnly (λ image. OpensWith Opens index image (state_of index old).table ⊎ OpensWith Opens index image (table_after t call (state_of index old))) old.store new.store
  pub named : IsTrue tells → IsAlive old.store
      → LeavesOnly (λ image. OpensAs Opens index image old.store.state.bytes (state_of index old).table ⊎ OpensAs Opens index image old.store.state.bytes (table_after t call (state_of index old))) old.store new.store
  pub mirrors : Mirrors tells old.store new.store
