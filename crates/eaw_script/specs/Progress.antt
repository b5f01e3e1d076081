-- How far a script has come, and what a loss of power leaves of it.
use Rattle.std.specs.Prelude.{ℕ, ◌≡◌, ◌⊎◌, List, [], ◌∷◌, ◌++◌, Option, Some, None, Contains}
use Rattle.array_shape.specs.declared.shape.Shape.{Shape}
use Rattle.eaw_face.specs.State.{State}
use Rattle.eaw_face.specs.StoreView.{StoreView, LeavesOnly}

-- The array's shape; its data and logs; the data before each command that was done; and the data that a command was to make when the medium
-- failed.
pub record Progress : Type 0 where
  pub shape : Shape
  pub state : State
  pub past : List (List ℕ)
  pub doubt : Option (List ℕ)

-- at the start of a script
abbrev pub begun : Shape → State → Progress
begun shape state = record { shape = shape; state = state; past = []; doubt = None }

-- after a command that left this state
abbrev pub moved : Progress → State → Progress
moved old state = record old { state = state; past = old.past ++ old.state.bytes ∷ [] }

-- data that may stand at the end: the present data, or the data in doubt
abbrev pub MayStand : Progress → List ℕ → Type 0
MayStand progress bytes = (bytes ≡ progress.state.bytes) ⊎ (progress.doubt ≡ Some bytes)

-- data that the script has made: it may stand at the end, or it stood before
abbrev pub IsMade : Progress → List ℕ → Type 0
IsMade progress bytes = MayStand progress bytes ⊎ Contains progress.past bytes

-- an image opens with data of this kind
abbrev pub OpensWith : (List ℕ → List ℕ → Type 0) → (List ℕ → Type 0) → List ℕ → Type 0
OpensWith Opens Is image = (bytes : List ℕ) × Opens image bytes × Is bytes

-- the store shows this progress, and nothing is in doubt
pub record Shows (store : StoreView) (progress : Progress) : Type 0 where
  pub shape : progress.shape ≡ store.shape
  pub state : progress.state ≡ store.state
  pub certain : progress.doubt ≡ None

-- From a store to a later one: each image that a loss of power might newly have left opens with data that the script has made, and each
-- that may be left now opens with data that may stand at the end. Nothing that was made before is forgotten.
pub record Comes (Opens : Shape → List ℕ → List ℕ → Type 0) (old : StoreView) (before : Progress) (new : StoreView) (after : Progress) : Type 0 where
  pub shape : after.shape ≡ before.shape
  pub grows : (bytes : List ℕ) → IsMade before bytes → IsMade after bytes
  pub since : LeavesOnly (OpensWith (Opens before.shape) (IsMade after)) old new
  pub now : (image : List ℕ) → new.left_since new.moment image → OpensWith (Opens before.shape) (MayStand after) image
