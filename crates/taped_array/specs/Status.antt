-- The statuses that a caller is told.
use Rattle.std.specs.Prelude.{ℤ, pos, Result, Ok, Err}
use Rattle.eaw_face.specs.declared.fault.EawFault.{EawFault}
use Rattle.eaw_face.specs.declared.fault.EawFault.TheVariants.{UnknownTid, LogFull, Media, Dead}
use Rattle.eaw_device.specs.declared.fault.AttachFault.{AttachFault}
use Rattle.eaw_device.specs.declared.fault.AttachFault.TheVariants as opening

-- the status of a refusal
abbrev pub status_of : EawFault → ℤ
status_of (UnknownTid t) = pos 1
status_of (LogFull logger held needed) = pos 2
status_of Media = pos 3
status_of Dead = pos 4

-- the status of an answer
abbrev pub status_in : {T : Type 0} → Result T EawFault → ℤ
status_in (Ok answer) = pos 0
status_in (Err fault) = status_of fault

-- the status of an opening that failed: where its medium did, memory ran out
abbrev pub status_of_opening : AttachFault → ℤ
status_of_opening opening.NotMars = pos 6
status_of_opening (opening.BadShape bad) = pos 7
status_of_opening (opening.BadRow logger row) = pos 8
status_of_opening opening.Media = pos 5
status_of_opening opening.NoMemory = pos 5

-- there is no memory
abbrev pub no_memory : ℤ
no_memory = pos 5

-- the array has no such number, or the number has no log
abbrev pub unknown : ℤ
unknown = pos 1

-- there is no array of this shape, or it has another length
abbrev pub bad_shape : ℤ
bad_shape = pos 7

-- more commits than 64 were to wait
abbrev pub bad_depth : ℤ
bad_depth = pos 9

-- a range is not within the data or within a part, or a write has no bytes
abbrev pub bad_range : ℤ
bad_range = pos 10

-- the log has no such part
abbrev pub bad_part : ℤ
bad_part = pos 11

-- the number has a log
abbrev pub in_use : ℤ
in_use = pos 12

-- nothing is to be done on the device, or no write
abbrev pub no_piece : ℤ
no_piece = pos 13

-- the array is closed, or it is open
abbrev pub is_closed : ℤ
is_closed = pos 14

abbrev pub is_open : ℤ
is_open = pos 15
