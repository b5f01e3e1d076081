-- How an array in memory is opened.
use Rattle.std.specs.Prelude.{ℕ, ◌≡◌, true, IsFalse, List, []}
use Rattle.pcm_media.specs.Replay.{at_rest}
use Rattle.page_store.specs.Index.{Index}
use Rattle.tape_media.specs.Steps.{device_of}
use Rattle.tape_media.specs.Tape.{view_of}
use Rattle.eaw_device.specs.declared.fault.AttachFault.TheVariants as array
use Rattle.mars_core.specs.declared.fault.CoreFault.TheVariants as core
use Rattle.open_records.specs.Opens.{BeginsOn, KeepsRecords, IsUnopened, is_media}
use Rattle.open_records.specs.declared.opening.OpenFault.{OpenFault}
use Rattle.open_records.specs.declared.opening.OpenFault.TheVariants as unopened
use Rattle.taped_calls.specs.Formats.{fresh}
use Rattle.taped_records.specs.declared.records.TapedRecords.{TapedRecords}
use Rattle.taped_records.specs.Shown.{tape_of, core_in}

-- The array in these bytes, for so many callers: it begins with its records, and at each moment of the opening a loss of power leaves them. On the
-- device nothing was done yet: it holds the bytes. As many commits may wait for their write-back as were asked for. No rows are kept.
pub record IsOpened (index : Index) (asked most : ℕ) (bytes : List ℕ) (taped : TapedRecords) : Type 0 where
  pub begins : BeginsOn index most (view_of (fresh bytes)) (core_in taped)
  pub keeps : KeepsRecords true (view_of (fresh bytes)) (core_in taped).moment (core_in taped).left_since
  pub device : device_of (tape_of taped).past ≡ at_rest bytes
  pub callers : taped.callers ≡ asked
  pub depth : (core_in taped).limits.depth ≡ most
  pub rows : taped.rows ≡ []

-- A fault of the medium, as it is told: it is in memory, and had nothing to do, so memory ran out in a write.
abbrev pub in_memory : OpenFault → OpenFault
in_memory (unopened.Array array.Media) = unopened.NoMemory
in_memory (unopened.Records core.Media) = unopened.NoMemory
in_memory fault = fault

-- why there is none: that the medium failed is never told
pub record HasFault (index : Index) (callers : ℕ) (bytes : List ℕ) (fault : OpenFault) : Type 0 where
  pub cause : IsUnopened true index callers (view_of (fresh bytes)) 0 fault
  pub told : IsFalse (is_media fault)
