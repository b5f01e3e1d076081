-- What a nested top action does as a whole.
use Rattle.std.specs.Prelude.{ℕ, ◌≡◌, ◌≢◌, ◌⊎◌, Bool, true, IsTrue, IsFalse, List, Result, Ok, Err}
use Rattle.mars_base.specs.Causes.{Rose}
use Rattle.array_shape.specs.Logged.{Part, applied}
use Rattle.eaw_face.specs.StoreView.{StoreView, LeavesOnly}
use Rattle.eaw_face.specs.Mirroring.{Mirrors}
use Rattle.eaw_face.specs.Causes.{IsAlive}
use Rattle.page_store.specs.Fits.{FitAll, LacksRoom}
use Rattle.page_store.specs.Inserts.{KeepsLogs}
use Rattle.page_store.specs.Looks.{is_failed}
use Rattle.page_store.specs.Shown.{PagesView}
use Rattle.page_store.specs.declared.fault.PageFault.{PageFault}
use Rattle.page_store.specs.declared.fault.PageFault.TheVariants.{Media}

-- why an action gets its answer: each of these pages has room for a part, or one logger lacks room
abbrev pub ActCause : StoreView → ℕ → List ℕ → Result (Unit {0}) PageFault → Type 0
ActCause old t pages (Ok answer) = IsAlive old × FitAll old t pages
ActCause old t pages (Err Media) = IsAlive old
ActCause old t pages (Err fault) = LacksRoom old t pages fault

-- the data after it: with its parts written, or, if it was refused, as before
abbrev pub ActData : List Part → List ℕ → List ℕ → Result (Unit {0}) PageFault → Type 0
ActData parts old new (Ok answer) = new ≡ applied parts old
ActData parts old new (Err Media) = Unit {0}
ActData parts old new (Err _) = new ≡ old

-- It writes all of its parts or none, and leaves what numbers have logged and saved, except at a fault of the medium. What the store sends is
-- added at the end of what it has sent, and gives its data.
pub record Acts (tells : Bool) (Opens : List ℕ → List ℕ → Type 0) (t : ℕ) (pages : List ℕ) (parts : List Part) (old new : PagesView) (result : Result (Unit {0}) PageFault) : Type 0 where
  pub shape : new.store.shape ≡ old.store.shape
  pub depth : new.store.depth ≡ old.store.depth
  pub cause : ActCause old.store t pages result
  pub saves : new.counts ≡ old.counts
  pub others : (u : ℕ) → u ≢ t → new.store.ranges u ≡ old.store.ranges u
  pub kept : IsFalse (is_failed result) → KeepsLogs tells old new
  pub made : IsTrue tells → IsAlive old.store → ActData parts old.store.state.bytes new.store.state.bytes result
  pub dies : IsTrue (is_failed result) → (new.store.is_dead ≡ true) × Rose old.store.faults new.store.faults
  pub time : IsTrue tells → IsAlive old.store → LeavesOnly (λ image. Opens image old.store.state.bytes ⊎ Opens image (applied parts old.store.state.bytes)) old.store new.store
  pub mirrors : Mirrors tells old.store new.store
