-- How C opens an array in memory.
use Rattle.std.specs.Prelude.{ℕ, ℤ, pos, ◌≡◌, ◌⊎◌, List, Option, Some, None}
use Rattle.taped_array.specs.declared.open_array.OpenArray.{OpenArray}
use Rattle.taped_array.specs.Opens.{IsOpened, IsUnopened}
use Rattle.taped_array.specs.Status.{is_open}

-- A closed array is opened, or stays closed for a reason that the status tells. An open one stays what it is.
abbrev pub Opens : ℕ → List ℕ → Option OpenArray → Option OpenArray → ℤ → Type 0
Opens depth bytes None new status =
    ((array : OpenArray) × (new ≡ Some array) × (status ≡ pos 0) × IsOpened depth bytes array)
    ⊎ ((new ≡ None) × IsUnopened depth bytes status)
Opens depth bytes (Some old) new status = (status ≡ is_open) × (new ≡ Some old)
