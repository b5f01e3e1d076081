-- What a command from C does to an array, open or closed.
use Rattle.std.specs.Prelude.{ℤ, ◌≡◌, Option, Result}
use Rattle.eaw_face.specs.Command.{Command}
use Rattle.eaw_face.specs.declared.fault.EawFault.{EawFault}
use Rattle.taped_calls.specs.Asked.{Changes}
use Rattle.taped_array.specs.declared.open_array.OpenArray.{OpenArray}
use Rattle.taped_array.specs.Asks.{Asks}
use Rattle.taped_array.specs.Refusals.{Test}
use Rattle.taped_array.specs.Status.{is_closed}

-- a command is asked of an open array; a closed one is not asked
abbrev pub Commands : {T : Type 0} → Test → Command → (OpenArray → Result T EawFault → Type 0) → Type 0
    → (old new : Option OpenArray) → ℤ → Type 0
Commands {T} asked command Tells Untold old new status =
    Changes (λ before after. Asks {T = T} asked command Tells Untold before after status) ((status ≡ is_closed) × Untold) old new

-- so it is with a command of which nothing more is told
abbrev pub CommandsOnly : Test → Command → (old new : Option OpenArray) → ℤ → Type 0
CommandsOnly asked command old new status = Commands {T = Unit {0}} asked command (λ array result. Unit {0}) (Unit {0}) old new status
