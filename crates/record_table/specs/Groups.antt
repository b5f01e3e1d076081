-- A commit of several numbers at once: what they have written is in the table all together, or not at all.
use Rattle.std.specs.Prelude.{ℕ, ◌≡◌, ◌⊎◌, Bool, true, false, IsTrue, IsFalse, List, [], flat_map, None, Result, Ok, Err, OnOk, OnErr}
use Rattle.mars_base.specs.Causes.{Rose}
use Rattle.eaw_face.specs.State.{is_one_of, with_each}
use Rattle.eaw_face.specs.StoreView.{LeavesOnly}
use Rattle.eaw_face.specs.Causes.{IsAlive}
use Rattle.history.specs.Writes.{Write, all_written}
use Rattle.record_slots.specs.Places.{version_of, tables_of}
use Rattle.page_store.specs.Index.{Index}
use Rattle.page_store.specs.Shown.{PagesView}
use Rattle.record_table.specs.State.{TableState}
use Rattle.record_table.specs.Shown.{state_of, keys_of}
use Rattle.record_table.specs.Does.{OpensWith, OpensAs, is_failed}
use Rattle.record_table.specs.declared.fault.TableFault.{TableFault}
use Rattle.record_table.specs.declared.fault.TableFault.TheVariants.{Media, Dead}
use Rattle.eaw_face.specs.Mirroring.{Mirrors}

-- what these numbers have written, that of one after that of another
abbrev pub group_writes : TableState → List ℕ → List Write
group_writes s ts = flat_map (λ t. (s.logs t).writes) ts

-- the state after their commit: the table has all of it, and they have written and saved nothing
abbrev pub after_group : List ℕ → TableState → TableState
after_group ts s = record { table = all_written s.table (group_writes s ts); logs = with_each s.logs ts (record { writes = []; saved = [] }) }

-- why it gets this answer
abbrev pub GroupCause : PagesView → Result (Unit {0}) TableFault → Type 0
GroupCause old (Ok done) = IsAlive old.store
GroupCause old (Err Dead) = old.store.is_dead ≡ true
GroupCause old (Err Media) = IsAlive old.store
GroupCause old (Err fault) = ⊥

-- A commit of these numbers, on records over a store whose images open as Opens says. Each answer has its cause. An Ok leaves the state that the
-- model says, frees the numbers, and hides no fault. After a refusal other than Media, the records and the logs of every number are as before.
-- Media leaves the store dead. The tables and their indexes stay, data of version 2 stays so, and so does the data byte for byte where the
-- numbers have written nothing. Other numbers keep what they have logged, whatever the answer. At each moment of a store that was not dead, a
-- loss of power leaves what it might have left before, or an image that opens with the records before the commit or with those after it: all
-- that the numbers have written, or nothing of it.
pub record CommitsGroup (tells : Bool) (Opens : List ℕ → List ℕ → Type 0) (index : Index) (ts : List ℕ) (old new : PagesView) (result : Result (Unit {0}) TableFault) : Type 0 where
  pub shape : new.store.shape ≡ old.store.shape
  pub depth : new.store.depth ≡ old.store.depth
  pub cause : GroupCause old result
  pub faults : IsFalse (is_failed result) → (new.store.is_dead ≡ old.store.is_dead) × (new.store.faults ≡ old.store.faults)
  pub dies : IsTrue (is_failed result) → (new.store.is_dead ≡ true) × Rose old.store.faults new.store.faults
  pub done : IsTrue tells → OnOk result (state_of index new ≡ after_group ts (state_of index old))
  pub refused : IsTrue tells → IsFalse (is_failed result) → OnErr result (state_of index new ≡ state_of index old)
  pub indexed : IsTrue tells → IsFalse (is_failed result) → keys_of index new.store.state.bytes ≡ keys_of index old.store.state.bytes
  pub version : IsTrue tells → IsFalse (is_failed result) → version_of old.store.state.bytes ≡ 2 → version_of new.store.state.bytes ≡ 2
  pub tables : IsTrue tells → IsFalse (is_failed result) → tables_of new.store.state.bytes ≡ tables_of old.store.state.bytes
  pub quiet : IsTrue tells → IsFalse (is_failed result) → group_writes (state_of index old) ts ≡ [] → new.store.state.bytes ≡ old.store.state.bytes
  pub free : OnOk result ((t : ℕ) → is_one_of ts t ≡ true → new.store.ranges t ≡ None)
  pub saves : OnOk result ((t : ℕ) → is_one_of ts t ≡ true → new.counts t ≡ [])
  pub same_saves : OnErr result (new.counts ≡ old.counts)
  pub others : (u : ℕ) → is_one_of ts u ≡ false → (new.store.ranges u ≡ old.store.ranges u) × (new.counts u ≡ old.counts u)
  pub time : IsTrue tells → IsAlive old.store
      → LeavesOnly (λ image. OpensWith Opens index image (state_of index old).table ⊎ OpensWith Opens index image (after_group ts (state_of index old)).table) old.store new.store
  pub named : IsTrue tells → IsAlive old.store
      → LeavesOnly (λ image. OpensAs Opens index image old.store.state.bytes (state_of index old).table ⊎ OpensAs Opens index image old.store.state.bytes (after_group ts (state_of index old)).table) old.store new.store
  pub mirrors : Mirrors tells old.store new.store
