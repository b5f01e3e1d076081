-- What a look at the data does, which writes nothing.
use Rattle.std.specs.Prelude.{ℕ, ◌≡◌, Bool, true, false, IsTrue, IsFalse, List, Result, Ok, Err}
use Rattle.mars_base.specs.Causes.{Rose}
use Rattle.eaw_face.specs.StoreView.{StoreView, LeavesOnly}
use Rattle.eaw_face.specs.Mirroring.{Mirrors}
use Rattle.eaw_face.specs.Causes.{IsAlive}
use Rattle.page_store.specs.Shown.{PagesView}
use Rattle.page_store.specs.Index.{Index}
use Rattle.page_store.specs.declared.fault.PageFault.{PageFault}
use Rattle.page_store.specs.declared.fault.PageFault.TheVariants as page
use Rattle.page_store.specs.declared.index_fault.CheckFault.{CheckFault}
use Rattle.page_store.specs.declared.index_fault.CheckFault.TheVariants as check

-- data and logs are as they were, and no fault was met
pub record IsStill (tells : Bool) (old new : StoreView) : Type 0 where
  pub dead : new.is_dead ≡ old.is_dead
  pub faults : new.faults ≡ old.faults
  pub state : IsTrue tells → new.state ≡ old.state

-- A look at a store, in which its medium failed or not: what numbers have logged, their saves and open top actions are as they were,
-- and a loss of power during it, if the store was not dead, leaves what it might have left before, or an image that opens with the data. What
-- the store sends is added at the end of what it has sent, and gives its data.
pub record Looks (tells : Bool) (Opens : List ℕ → List ℕ → Type 0) (failed : Bool) (old new : PagesView) : Type 0 where
  pub shape : new.store.shape ≡ old.store.shape
  pub depth : new.store.depth ≡ old.store.depth
  pub ranges : new.store.ranges ≡ old.store.ranges
  pub saves : new.counts ≡ old.counts
  pub tops : new.top ≡ old.top
  pub still : IsFalse failed → IsStill tells old.store new.store
  pub dies : IsTrue failed → (new.store.is_dead ≡ true) × Rose old.store.faults new.store.faults
  pub time : IsTrue tells → IsAlive old.store → LeavesOnly (λ image. Opens image old.store.state.bytes) old.store new.store
  pub mirrors : Mirrors tells old.store new.store

-- whether the medium failed
abbrev pub is_failed : {T : Type 0} → Result T PageFault → Bool
is_failed (Err page.Media) = true
is_failed _ = false

abbrev pub is_check_failed : {T : Type 0} → Result T CheckFault → Bool
is_check_failed (Err check.Media) = true
is_check_failed _ = false

-- why a look by key gets this answer: over a store that tells its data no page is answered as damaged
abbrev pub LookCause : {T : Type 0} → Bool → StoreView → Result T PageFault → Type 0
LookCause tells old (Err page.Dead) = old.is_dead ≡ true
LookCause tells old (Err page.Media) = IsAlive old
LookCause tells old (Err (page.Damaged bad)) = IsAlive old × ¬ IsTrue tells
LookCause tells old (Err _) = ⊥
LookCause tells old (Ok answer) = IsAlive old

-- why a check gets this answer: over a store that tells its data, exactly whether it is sound, and else the page that fails first
abbrev pub CheckCause : Bool → Index → StoreView → Result (Unit {0}) CheckFault → Type 0
CheckCause tells index old (Ok answer) = IsAlive old × (IsTrue tells → index.sound old.state.bytes)
CheckCause tells index old (Err (check.Damaged bad)) = IsAlive old × (IsTrue tells → index.fails old.state.bytes bad)
CheckCause tells index old (Err check.Media) = IsAlive old
CheckCause tells index old (Err check.Dead) = old.is_dead ≡ true
CheckCause tells index old (Err check.NoMemory) = IsAlive old
