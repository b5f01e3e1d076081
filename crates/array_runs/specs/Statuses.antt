-- The statuses of a run by kind, and the counts of faults that go with each.
use Rattle.std.specs.Prelude.{ℕ, ◌≡◌, ◌≢◌, Result, Ok, Err}
use Rattle.mars_base.specs.Causes.{Rose}
use Rattle.eaw_device.specs.declared.fault.AttachFault.{AttachFault}
use Rattle.eaw_device.specs.declared.fault.AttachFault.TheVariants as opening
use Rattle.mars_core.specs.declared.fault.CoreFault.{CoreFault}
use Rattle.mars_core.specs.declared.fault.CoreFault.TheVariants as core
use Rattle.script_run.specs.declared.ended.Ended.{Ended}
use Rattle.script_run.specs.declared.ended.Ended.TheVariants as script
use Rattle.array_runs.specs.declared.status.Status.{Status}
use Rattle.array_runs.specs.declared.status.Status.TheVariants.{Good, Usage, TooLong, ReadFault, WriteFault, MediaFault, NoMemory, Damaged, BadRow, NotMars, BadShape, Refused, BadFrame, Gap}

-- the statuses of a run whose input is not taken, and which ends before the medium is touched
abbrev pub IsEarly : Status → Type 0
IsEarly TooLong = Unit {0}
IsEarly ReadFault = Unit {0}
IsEarly _ = ⊥

-- the array on the medium, what is there in place of one, or what is asked of it is refused
abbrev pub IsRefusal : Status → Type 0
IsRefusal Usage = Unit {0}
IsRefusal (Damaged page) = Unit {0}
IsRefusal (BadRow logger tid) = Unit {0}
IsRefusal NotMars = Unit {0}
IsRefusal (BadShape which given) = Unit {0}
IsRefusal (Refused refusal) = Unit {0}
IsRefusal _ = ⊥

-- nothing is written with this status, which is none of those
abbrev pub IsSilent : Status → Type 0
IsSilent status = (status ≢ Good) × (status ≢ WriteFault) × (status ≢ MediaFault) × (status ≢ NoMemory)
    × ((n : ℕ) → status ≢ BadFrame n) × ((expected got : ℕ) → status ≢ Gap expected got)

-- the status of a script that ended this way
abbrev pub script_status : Ended → Status
script_status script.All = Good
script_status script.WriteFault = WriteFault
script_status script.MediaFault = MediaFault
script_status script.NoMemory = NoMemory

-- the status of an array that is not opened
abbrev pub status_of : AttachFault → Status
status_of opening.NotMars = NotMars
status_of (opening.BadShape bad) = BadShape bad.which bad.given
status_of (opening.BadRow logger tid) = BadRow logger tid
status_of opening.Media = MediaFault
status_of opening.NoMemory = NoMemory

-- the status of work over records, or of records that were not taken
abbrev pub served_status : Result Ended CoreFault → Status
served_status (Ok ended) = script_status ended
served_status (Err (core.Damaged page)) = Damaged page
served_status (Err core.Media) = MediaFault
served_status (Err core.NoMemory) = NoMemory

-- The counts of faults of the source, the sink and the medium, each before and after: the one that ended the run rose, and the others are
-- as they were, except that the sink may also fail while a fault of the medium is reported.
abbrev pub Counts : Status → ℕ → ℕ → ℕ → ℕ → ℕ → ℕ → Type 0
Counts ReadFault source source' sink sink' media media' = Rose source source' × (sink' ≡ sink) × (media' ≡ media)
Counts WriteFault source source' sink sink' media media' = (source' ≡ source) × Rose sink sink' × (media' ≡ media)
Counts MediaFault source source' sink sink' media media' = (source' ≡ source) × Rose media media'
Counts _ source source' sink sink' media media' = (source' ≡ source) × (sink' ≡ sink) × (media' ≡ media)
