-- What a look as a number does, and what it finds for a key.
use Rattle.std.specs.Prelude.{ℕ, ◌≡◌, ◌≢◌, Bool, true, IsTrue, IsFalse, List, Option, Some, None}
use Rattle.std.specs.FinMap.{get}
use Rattle.mars_base.specs.Causes.{Rose}
use Rattle.eaw_face.specs.StoreView.{LeavesOnly}
use Rattle.eaw_face.specs.Causes.{IsAlive}
use Rattle.history.specs.declared.key.Key.{Key}
use Rattle.page_store.specs.Index.{Index}
use Rattle.page_store.specs.Looks.{IsStill}
use Rattle.page_store.specs.Shown.{PagesView}
use Rattle.record_table.specs.State.{seen_by}
use Rattle.record_table.specs.Shown.{state_of}
use Rattle.record_table.specs.Causes.{slot_in}
use Rattle.record_table.specs.declared.slots.Place.{Place}
use Rattle.eaw_face.specs.Mirroring.{Mirrors}

-- data, logs and the places of their parts are as they were, and no fault was met
pub record IsAsBefore (tells : Bool) (old new : PagesView) : Type 0 where
  pub still : IsStill tells old.store new.store
  pub ranges : new.store.ranges ≡ old.store.ranges

-- A look as number t, which met a fault of the medium or none. Saves, open nested top actions and what others have logged are as they were.
-- At each moment of a store that was not dead, a loss of power leaves what it might have left before, or an image that opens with the data.
pub record LooksAs (tells : Bool) (Opens : List ℕ → List ℕ → Type 0) (t : ℕ) (failed : Bool) (old new : PagesView) : Type 0 where
  pub shape : new.store.shape ≡ old.store.shape
  pub depth : new.store.depth ≡ old.store.depth
  pub saves : new.counts ≡ old.counts
  pub tops : new.top ≡ old.top
  pub others : (u : ℕ) → u ≢ t → new.store.ranges u ≡ old.store.ranges u
  pub same : IsFalse failed → IsAsBefore tells old new
  pub dies : IsTrue failed → (new.store.is_dead ≡ true) × Rose old.store.faults new.store.faults
  pub time : IsTrue tells → IsAlive old.store → LeavesOnly (λ image. Opens image old.store.state.bytes) old.store new.store
  pub mirrors : Mirrors tells old.store new.store

-- the slot of the key with the value that the number sees there; or nothing, if the index lacks the key
abbrev pub Finds : Index → ℕ → Key → PagesView → Option Place → Type 0
Finds index t key old None = (slot_in index old key ≡ None) × (get (seen_by (state_of index old) t) key ≡ None)
Finds index t key old (Some place) = (slot_in index old key ≡ Some place.slot) × (get (seen_by (state_of index old) t) key ≡ place.value)

-- the value that was found
abbrev pub value_at : Option Place → Option (List ℕ)
value_at None = None
value_at (Some place) = place.value
