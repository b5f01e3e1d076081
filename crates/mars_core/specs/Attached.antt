-- Why a core does not begin, and how it then leaves the store.
use Rattle.std.specs.Prelude.{ℕ, ◌≡◌, ◌⊎◌, Bool, true, false, IsTrue, IsFalse, List, Result, Ok, Err}
use Rattle.mars_base.specs.Causes.{Rose}
use Rattle.eaw_face.specs.StoreView.{StoreView, LeavesOnly}
use Rattle.page_store.specs.Index.{Index}
use Rattle.page_store.specs.declared.index_fault.CheckFault.{CheckFault}
use Rattle.page_store.specs.declared.index_fault.CheckFault.TheVariants as check
use Rattle.record_table.specs.Upgrading.{upgraded}
use Rattle.record_table.specs.declared.fault.TableFault.{TableFault}
use Rattle.record_table.specs.declared.fault.TableFault.TheVariants as fault
use Rattle.mars_core.specs.declared.fault.CoreFault.{CoreFault}
use Rattle.mars_core.specs.declared.fault.CoreFault.TheVariants.{Damaged, Media, NoMemory}
use Rattle.eaw_face.specs.Mirroring.{Mirrors}

abbrev pub is_media_fault : CoreFault → Bool
is_media_fault Media = true
is_media_fault _ = false

-- if the store tells its data, the page is the first that fails
abbrev pub CoreCause : Bool → Index → StoreView → CoreFault → Type 0
CoreCause tells index old (Damaged page) = IsTrue tells → index.fails old.state.bytes page
CoreCause tells index old _ = Unit {0}

-- why records could not be taken, or not be read
abbrev pub attach_fault : CheckFault → CoreFault
attach_fault (check.Damaged page) = Damaged page
attach_fault check.NoMemory = NoMemory
attach_fault _ = Media

abbrev pub scan_fault : TableFault → CoreFault
scan_fault (fault.Damaged page) = Damaged page
scan_fault fault.NoMemory = NoMemory
scan_fault _ = Media

-- the same of what came of a reading
abbrev pub is_failed : {T : Type 0} → Result T CoreFault → Bool
is_failed (Err fault) = is_media_fault fault
is_failed (Ok value) = false

-- The store is as it was, unless the medium failed. Whatever a loss of power might have left meanwhile opens with the data that it had.
pub record LeftAsItWas (tells : Bool) (Opens : List ℕ → List ℕ → Type 0) (failed : Bool) (old new : StoreView) : Type 0 where
  pub shape : new.shape ≡ old.shape
  pub depth : new.depth ≡ old.depth
  pub kept : IsFalse failed → (new.is_dead ≡ old.is_dead) × (new.faults ≡ old.faults)
  pub unwritten : IsTrue tells → IsFalse failed → new.state.bytes ≡ old.state.bytes
  pub dies : IsTrue failed → (new.is_dead ≡ true) × Rose old.faults new.faults
  pub time : IsTrue tells → LeavesOnly (λ image. Opens image old.state.bytes) old new
  pub mirrors : Mirrors tells old new

-- The store that is given back, after a fault of the medium or none. Its data is as it was if there was none. Whatever a loss of power might
-- have left meanwhile opens with that data, or, if the medium failed, with the same in version 2.
pub record GivesBack (tells : Bool) (Opens : List ℕ → List ℕ → Type 0) (failed : Bool) (old new : StoreView) : Type 0 where
  pub shape : new.shape ≡ old.shape
  pub depth : new.depth ≡ old.depth
  pub kept : IsFalse failed → (new.is_dead ≡ old.is_dead) × (new.faults ≡ old.faults)
  pub unwritten : IsTrue tells → IsFalse failed → new.state.bytes ≡ old.state.bytes
  pub dies : IsTrue failed → (new.is_dead ≡ true) × Rose old.faults new.faults
  pub time : IsTrue tells → LeavesOnly (λ image. Opens image old.state.bytes ⊎ (IsTrue failed × Opens image (upgraded old.state.bytes))) old new
  pub mirrors : Mirrors tells old new
