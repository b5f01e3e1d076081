-- How an array in memory is opened.
use Rattle.std.specs.Prelude.{ℕ, ℤ, ◌≡◌, ◌<◌, ◌⊎◌, true, List}
use Rattle.pcm_media.specs.Replay.{at_rest}
use Rattle.tape_media.specs.Steps.{device_of}
use Rattle.tape_media.specs.Tape.{view_of}
use Rattle.eaw_device.specs.Opens.{Attached, FindsData, KeepsData, AttachCause}
use Rattle.eaw_device.specs.Sound.{deferred_of}
use Rattle.eaw_device.specs.declared.fault.AttachFault.{AttachFault}
use Rattle.taped_calls.specs.Formats.{fresh}
use Rattle.taped_array.specs.declared.open_array.OpenArray.{OpenArray}
use Rattle.taped_array.specs.Status.{status_of_opening, no_memory, bad_depth}
use Rattle.taped_array.specs.Shown.{tape_of, store_in}

-- The array in these bytes, on which so many commits may wait: it has the data that they settle to, and at each moment of the opening a loss of power
-- leaves that. On the device nothing was done yet: it holds the bytes.
pub record IsOpened (depth : ℕ) (bytes : List ℕ) (array : OpenArray) : Type 0 where
  pub attached : Attached true (view_of (fresh bytes)) (store_in array)
  pub found : FindsData true (view_of (fresh bytes)) (store_in array)
  pub keeps : KeepsData true (view_of (fresh bytes)) (store_in array).moment (store_in array).left_since
  pub device : device_of (tape_of array).past ≡ at_rest bytes
  pub limit : (store_in array).depth ≡ depth
  pub none_waits : deferred_of array.store.late ≡ 0

-- The bytes are not opened by this fault. It is no fault of the medium, which is in memory: where memory ran out in a write, the status says that.
abbrev pub HasFault : List ℕ → AttachFault → Type 0
HasFault bytes fault = AttachCause true (view_of (fresh bytes)) 0 fault

-- why nothing is opened: the depth is too large, there was no memory, or the bytes are not to be opened
abbrev pub IsUnopened : ℕ → List ℕ → ℤ → Type 0
IsUnopened depth bytes status =
    ((status ≡ bad_depth) × (64 < depth))
    ⊎ ((status ≡ no_memory) ⊎ ((fault : AttachFault) × (status ≡ status_of_opening fault) × HasFault bytes fault))
