-- What a command does to an open array.
use Rattle.std.specs.Prelude.{ℤ, ◌≡◌, ◌≢◌, ◌⊎◌, true, Some, None, Result, IfErr}
use Rattle.eaw_face.specs.Command.{Command}
use Rattle.eaw_face.specs.Does.{Does}
use Rattle.eaw_face.specs.declared.fault.EawFault.{EawFault}
use Rattle.eaw_face.specs.declared.fault.EawFault.TheVariants.{Media}
use Rattle.eaw_device.specs.Opens.{Opens}
use Rattle.taped_array.specs.declared.open_array.OpenArray.{OpenArray}
use Rattle.taped_array.specs.Shown.{store_in}
use Rattle.taped_array.specs.Status.{status_in}
use Rattle.taped_array.specs.Refusals.{Test}

-- The array made this command, with this result. A refusal leaves it as it was.
pub record Makes {T : Type 0} (command : Command) (old new : OpenArray) (result : Result T EawFault) : Type 0 where
  pub does : Does true (Opens (store_in old).shape) command (store_in old) (store_in new) result
  pub refused : IfErr result (λ fault. fault ≢ Media → new ≡ old)

-- The tests are passed, the command was made, the status is that of its result, and this is told of that. Or the status is that of the test that
-- fails, nothing was done, and this is told.
abbrev pub Asks : {T : Type 0} → Test → Command → (OpenArray → Result T EawFault → Type 0) → Type 0 → (old new : OpenArray) → ℤ → Type 0
Asks {T} asked command Tells Untold old new status =
    (asked old None × ((result : Result T EawFault) × Makes command old new result × (status ≡ status_in result) × Tells old result))
    ⊎ (asked old (Some status) × (new ≡ old) × Untold)

-- so it is with a command of which nothing more is told
abbrev pub AsksOnly : Test → Command → (old new : OpenArray) → ℤ → Type 0
AsksOnly asked command old new status = Asks {T = Unit {0}} asked command (λ array result. Unit {0}) (Unit {0}) old new status
