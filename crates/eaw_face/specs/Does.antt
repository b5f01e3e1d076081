-- What a command does.
use Rattle.std.specs.Prelude.{ℕ, ◌≡◌, ◌⊎◌, ◌+◌, ◌≤◌, Bool, true, false, IsTrue, List, Result, OnOk, OnErr, IsErrOf}
use Rattle.eaw_face.specs.StoreView.{StoreView, LeavesOnly}
use Rattle.eaw_face.specs.Command.{Command, after, ranges_after}
use Rattle.eaw_face.specs.Causes.{Cause, IsNumberOf}
use Rattle.eaw_face.specs.Mirroring.{Mirrors}
use Rattle.eaw_face.specs.Due.{SendsDue}
use Rattle.eaw_face.specs.declared.fault.EawFault.{EawFault}
use Rattle.eaw_face.specs.declared.fault.EawFault.TheVariants.{Media}

-- The command is done: data and logs are as the model says, and the store is not dead.
pub record Becomes (tells : Bool) (command : Command) (old new : StoreView) : Type 0 where
  pub alive : new.is_dead ≡ false
  pub ranges : new.ranges ≡ ranges_after command old.ranges
  pub state : IsTrue tells → new.state ≡ after command old.state

-- an image opens with the data before or with the data after
abbrev pub IsEither : (List ℕ → List ℕ → Type 0) → List ℕ → List ℕ → List ℕ → Type 0
IsEither Opens before after image = Opens image before ⊎ Opens image after

-- A command of a store, where `Opens` says which data an image opens with. Each answer has its cause. An Ok is the model's command,
-- and hides no fault. A fault of the medium leaves the store dead. Whatever the answer, other numbers have logged what they had,
-- and a loss of power during a command of a store that was not dead leaves what it might have left before, or an image that opens
-- with the data before the command or after it. A store that mirrors sends the frame of a command that is done and commits anything,
-- and of no other command: nothing is sent of one that is refused or fails.
pub record Does {T : Type 0} (tells : Bool) (Opens : List ℕ → List ℕ → Type 0) (command : Command) (old new : StoreView) (result : Result T EawFault) : Type 0 where
  pub shape : new.shape ≡ old.shape
  pub depth : new.depth ≡ old.depth
  pub later : old.faults ≤ new.faults
  pub cause : Cause old command new.faults result
  pub done : OnOk result (Becomes tells command old new)
  pub kept : OnOk result (new.faults ≡ old.faults)
  pub dies : IsErrOf result Media → new.is_dead ≡ true
  pub others : (u : ℕ) → (IsNumberOf command u → ⊥) → new.ranges u ≡ old.ranges u
  pub time : IsTrue tells → old.is_dead ≡ false → LeavesOnly (IsEither Opens old.state.bytes (after command old.state).bytes) old new
  pub mirrors : Mirrors tells old new
  pub one : new.sending.sent ≤ old.sending.sent + 1
  pub sends : OnOk result (old.sending.mirrors ≡ true → SendsDue tells command mirrors.added old new)
  pub refused : OnErr result (new.sending ≡ old.sending)
