-- What an upgrade of the super page to version 2 does.
use Rattle.std.specs.Prelude.{ℕ, ◌≡◌, ◌≢◌, ◌⊎◌, nat_eq, if◌then◌else◌, Bool, true, IsTrue, IsFalse, List, Result, Ok, Err, OnOk}
use Rattle.mars_base.specs.Bytes.{put}
use Rattle.mars_base.specs.Causes.{Rose}
use Rattle.eaw_face.specs.StoreView.{LeavesOnly}
use Rattle.eaw_face.specs.Causes.{IsAlive}
use Rattle.record_slots.specs.Places.{page_bytes, next_slot, next_page, version_of, tables_of}
use Rattle.record_slots.specs.Super.{form_said, main_bytes}
use Rattle.page_store.specs.Index.{Index, IsTable}
use Rattle.page_store.specs.Shown.{PagesView}
use Rattle.record_table.specs.Shown.{state_of, keys_of}
use Rattle.record_table.specs.Does.{OpensWith, OpensNamed, is_failed}
use Rattle.record_table.specs.Names.{names_of}
use Rattle.record_table.specs.declared.fault.TableFault.{TableFault}
use Rattle.record_table.specs.declared.fault.TableFault.TheVariants.{Media, Dead, Damaged}
use Rattle.eaw_face.specs.Mirroring.{Mirrors}

-- Data in version 2: that of version 2 is as it is, and that of version 1 gets a super page with the table `main` and with the form and the
-- counts that it had.
unfoldable pub upgraded : List ℕ → List ℕ
upgraded bytes =
    if nat_eq (version_of bytes) 2 then bytes
    else put bytes 0 (main_bytes (form_said (page_bytes bytes 0)) (next_slot bytes) (next_page bytes))

-- an image opens with this data, or with the same in version 2
abbrev pub OpensUpgraded : (List ℕ → List ℕ → Type 0) → List ℕ → List ℕ → Type 0
OpensUpgraded Opens bytes image = Opens image bytes ⊎ Opens image (upgraded bytes)

-- why it gets this answer: over a store that tells its data no page is answered as damaged
abbrev pub UpgradeCause : Bool → PagesView → Result (Unit {0}) TableFault → Type 0
UpgradeCause tells old (Ok done) = IsAlive old.store
UpgradeCause tells old (Err Media) = IsAlive old.store
UpgradeCause tells old (Err Dead) = old.store.is_dead ≡ true
UpgradeCause tells old (Err (Damaged page)) = IsAlive old.store × ¬ IsTrue tells
UpgradeCause tells old (Err fault) = ⊥

-- After an Ok the data is in version 2, byte for byte, and a sound index. The tables, their records, and what every number has written and
-- saved are as they were, and so are the indexes; data of version 2 is left byte for byte. Media leaves the store dead. At each moment of a
-- store that was not dead, a loss of power leaves what it might have left before, or an image that opens with the data before or in version 2,
-- and so with the records, under the names that the tables have.
pub record Upgrades (tells : Bool) (Opens : List ℕ → List ℕ → Type 0) (index : Index) (old new : PagesView) (result : Result (Unit {0}) TableFault) : Type 0 where
  pub shape : new.store.shape ≡ old.store.shape
  pub depth : new.store.depth ≡ old.store.depth
  pub cause : UpgradeCause tells old result
  pub faults : IsFalse (is_failed result) → (new.store.is_dead ≡ old.store.is_dead) × (new.store.faults ≡ old.store.faults)
  pub dies : IsTrue (is_failed result) → (new.store.is_dead ≡ true) × Rose old.store.faults new.store.faults
  pub bytes : IsTrue tells → OnOk result (new.store.state.bytes ≡ upgraded old.store.state.bytes)
  pub sound : IsTrue tells → OnOk result (index.sound new.store.state.bytes)
  pub version : IsTrue tells → OnOk result (version_of new.store.state.bytes ≡ 2)
  pub tables : IsTrue tells → IsFalse (is_failed result) → tables_of new.store.state.bytes ≡ tables_of old.store.state.bytes
  pub state : IsTrue tells → IsFalse (is_failed result) → state_of index new ≡ state_of index old
  pub keys : IsTrue tells → IsFalse (is_failed result) → keys_of index new.store.state.bytes ≡ keys_of index old.store.state.bytes
  pub indexes : IsTrue tells → IsFalse (is_failed result) → (table root : ℕ) → IsTable old.store.state.bytes table root → index.pairs new.store.state.bytes root ≡ index.pairs old.store.state.bytes root
  pub quiet : IsTrue tells → IsFalse (is_failed result) → version_of old.store.state.bytes ≡ 2 → new.store.state.bytes ≡ old.store.state.bytes
  pub saves : new.counts ≡ old.counts
  pub ranges : IsFalse (is_failed result) → new.store.ranges 0 ≡ old.store.ranges 0
  pub others : (u : ℕ) → u ≢ 0 → new.store.ranges u ≡ old.store.ranges u
  pub time : IsTrue tells → IsAlive old.store → LeavesOnly (λ image. OpensWith Opens index image (state_of index old).table) old.store new.store
  pub exact : IsTrue tells → IsAlive old.store → LeavesOnly (OpensUpgraded Opens old.store.state.bytes) old.store new.store
  pub named : IsTrue tells → IsAlive old.store → LeavesOnly (λ image. OpensNamed Opens index image (names_of old.store.state.bytes) (state_of index old).table) old.store new.store
  pub mirrors : Mirrors tells old.store new.store
