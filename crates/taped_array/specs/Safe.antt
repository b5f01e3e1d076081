-- What a loss of power may leave of an array, from one call to the next.
use Rattle.std.specs.Prelude.{ℕ, ◌≡◌, ◌⊎◌, List, [], ◌∷◌}
use Rattle.tape_media.specs.Steps.{DeviceMayLeave}
use Rattle.eaw_face.specs.StoreView.{LeavesOnly}
use Rattle.eaw_face.specs.Does.{IsEither}
use Rattle.eaw_device.specs.Opens.{Opens}
use Rattle.taped_array.specs.declared.open_array.OpenArray.{OpenArray}
use Rattle.taped_array.specs.Shown.{tape_of, store_in}

-- it is one of these data
abbrev pub IsOneOf : List (List ℕ) → List ℕ → Type 0
IsOneOf [] bytes = ⊥
IsOneOf (first ∷ datas) bytes = (bytes ≡ first) ⊎ IsOneOf datas bytes

-- an image opens with one of these data
abbrev pub OpensWithOne : OpenArray → List (List ℕ) → List ℕ → Type 0
OpensWithOne array datas image = (bytes : List ℕ) × Opens (store_in array).shape image bytes × IsOneOf datas bytes

-- whatever might have been left since a moment does
abbrev pub IsSafe : OpenArray → ℕ → List (List ℕ) → Type 0
IsSafe array since datas = (image : List ℕ) → (store_in array).left_since since image → OpensWithOne array datas image

-- whatever a loss of power leaves on the device does
abbrev pub IsSafeOnDevice : OpenArray → List (List ℕ) → Type 0
IsSafeOnDevice array datas = (image : List ℕ) → DeviceMayLeave (tape_of array).past image → OpensWithOne array datas image

-- a loss of power during a command leaves the data before it or this data, as `Does` says
pub record LeavesEither (after : List ℕ) (old new : OpenArray) : Type 0 where
  pub shape : (store_in new).shape ≡ (store_in old).shape
  pub time : LeavesOnly (IsEither (Opens (store_in old).shape) (store_in old).state.bytes after) (store_in old) (store_in new)
