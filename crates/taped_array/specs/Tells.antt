-- What a caller is told of the tape of an open array.
use Rattle.std.specs.Prelude.{ℕ, ℤ, pos, ◌≡◌, ◌≤◌, false, List, [], ◌∷◌, Option, Some, None}
use Rattle.tape_media.specs.Steps.{Step, with_first_done, DeviceMayLeave}
use Rattle.tape_media.specs.Tape.{Tape, done_moment}
use Rattle.eaw_face.specs.Mirroring.{ShowsSame}
use Rattle.eaw_device.specs.Opens.{Opens}
use Rattle.taped_array.specs.declared.open_array.OpenArray.{OpenArray}
use Rattle.taped_array.specs.Status.{no_piece}
use Rattle.taped_array.specs.Shown.{tape_of, store_in}
use Rattle.taped_array.specs.Safe.{IsSafe}

-- the tape goes on to this one, and the array shows what it did
pub record GoesOn (next : Tape) (old new : OpenArray) : Type 0 where
  pub tape : tape_of new ≡ next
  pub same : ShowsSame (store_in old) (store_in new)

-- the next step was done, and is forgotten; or there is none
abbrev pub IsDone : Option Step → OpenArray → OpenArray → ℤ → Type 0
IsDone None old new status = (status ≡ no_piece) × (new ≡ old)
IsDone (Some step) old new status = (status ≡ pos 0) × GoesOn (record (tape_of old) { past = with_first_done (tape_of old).past }) old new

-- It is the moment of the last call. What might be left since then opens with the data as it is.
pub record IsMoment (moment : ℕ) (array : OpenArray) : Type 0 where
  pub is : moment ≡ (store_in array).moment
  pub now : (store_in array).is_dead ≡ false → IsSafe array moment ((store_in array).state.bytes ∷ [])

-- It is the moment up to which all steps were done on the device. What a loss of power leaves there, the array might have left since each moment up
-- to it; so it opens with the data as it is, once all steps were done.
pub record IsDoneUpTo (moment : ℕ) (array : OpenArray) : Type 0 where
  pub is : moment ≡ done_moment (tape_of array)
  pub durable : (since : ℕ) (image : List ℕ) → since ≤ moment → DeviceMayLeave (tape_of array).past image → (store_in array).left_since since image
  pub now : moment ≡ (store_in array).moment → (store_in array).is_dead ≡ false
      → (image : List ℕ) → DeviceMayLeave (tape_of array).past image → Opens (store_in array).shape image (store_in array).state.bytes
