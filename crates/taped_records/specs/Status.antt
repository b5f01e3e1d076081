-- The statuses that a caller is told.
use Rattle.std.specs.Prelude.{ℤ, pos}
use Rattle.history.specs.declared.call.Reply.{Reply}
use Rattle.history.specs.declared.call.Reply.TheVariants.{Fine, Found, Absent, Listed, Saved, Committed, Purged, NoTransaction, NoTable, Already, NoSave, SavesFull, Busy, LogFull, SlotsFull, PagesFull, Media, Dead, NoMemory, Damaged}
use Rattle.eaw_device.specs.declared.fault.AttachFault.TheVariants as array
use Rattle.mars_core.specs.declared.fault.CoreFault.TheVariants as core
use Rattle.open_records.specs.declared.opening.OpenFault.{OpenFault}
use Rattle.open_records.specs.declared.opening.OpenFault.TheVariants as unopened

-- the status of a reply
abbrev pub status_of : Reply → ℤ
status_of Fine = pos 0
status_of (Found value) = pos 0
status_of (Listed rows) = pos 0
status_of (Saved saves) = pos 0
status_of (Committed number) = pos 0
status_of (Purged keys) = pos 0
status_of Absent = pos 1
status_of NoTransaction = pos 2
status_of NoTable = pos 3
status_of Already = pos 4
status_of (NoSave save) = pos 5
status_of SavesFull = pos 6
status_of (Busy holder) = pos 7
status_of (LogFull logger held needed) = pos 8
status_of (SlotsFull slots) = pos 9
status_of (PagesFull pages) = pos 10
status_of Media = pos 11
status_of Dead = pos 12
status_of NoMemory = pos 13
status_of (Damaged page) = pos 14

-- the status of an opening that failed
abbrev pub status_of_opening : OpenFault → ℤ
status_of_opening (unopened.Array array.NotMars) = pos 19
status_of_opening (unopened.Array (array.BadShape fault)) = pos 18
status_of_opening (unopened.Array (array.BadRow logger row)) = pos 20
status_of_opening (unopened.Array array.Media) = pos 11
status_of_opening (unopened.Array array.NoMemory) = pos 13
status_of_opening (unopened.Records core.Media) = pos 11
status_of_opening (unopened.Records core.NoMemory) = pos 13
status_of_opening (unopened.Records (core.Damaged page)) = pos 14
status_of_opening (unopened.Callers numbers) = pos 15
status_of_opening unopened.NoMemory = pos 13

-- there is no memory
abbrev pub no_memory : ℤ
no_memory = pos 13

-- there is no array of this shape, or it has another length
abbrev pub bad_shape : ℤ
bad_shape = pos 18

-- there is no such caller
abbrev pub bad_caller : ℤ
bad_caller = pos 15

-- a text is no name of a table, or no value
abbrev pub bad_name : ℤ
bad_name = pos 16

abbrev pub bad_value : ℤ
bad_value = pos 17

-- nothing is to be done on the device, or no write
abbrev pub no_piece : ℤ
no_piece = pos 21

-- the array is closed, or it is open
abbrev pub is_closed : ℤ
is_closed = pos 23

abbrev pub is_open : ℤ
is_open = pos 31

-- more commits than may wait
abbrev pub bad_depth : ℤ
bad_depth = pos 32

-- the key of long bytes is too large
abbrev pub bad_key : ℤ
bad_key = pos 24
