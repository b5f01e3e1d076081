-- How C opens an array in memory.
use Rattle.std.specs.Prelude.{ℕ, ℤ, pos, ◌≡◌, ◌<◌, ◌⊎◌, List, Option, Some, None}
use Rattle.page_store.specs.Index.{Index}
use Rattle.open_records.specs.declared.opening.OpenFault.{OpenFault}
use Rattle.taped_records.specs.declared.records.TapedRecords.{TapedRecords}
use Rattle.taped_records.specs.Status.{status_of_opening, is_open, bad_depth}
use Rattle.taped_records.specs.Opens.{IsOpened, HasFault}

-- A closed array is opened, so that so many commits may wait, or stays closed for a reason that the status tells. An open one stays what it is.
abbrev pub Opens : Index → (callers depth : ℕ) → List ℕ → Option TapedRecords → Option TapedRecords → ℤ → Type 0
Opens index callers depth bytes None new status =
    ((array : TapedRecords) × (new ≡ Some array) × (status ≡ pos 0) × IsOpened index callers depth bytes array)
    ⊎ ((new ≡ None) × ((fault : OpenFault) × (status ≡ status_of_opening fault) × HasFault index callers bytes fault))
Opens index callers depth bytes (Some old) new status = (status ≡ is_open) × (new ≡ Some old)

-- so it is, or more were asked for than may wait
abbrev pub OpensLate : Index → (callers depth : ℕ) → List ℕ → Option TapedRecords → Option TapedRecords → ℤ → Type 0
OpensLate index callers depth bytes old new status = Opens index callers depth bytes old new status ⊎ ((status ≡ bad_depth) × (64 < depth) × (new ≡ old))
