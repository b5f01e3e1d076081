-- How C makes a table in an array.
use Rattle.std.specs.Prelude.{ℕ, ℤ, pos, ◌≡◌, ◌⊎◌, List, Option, Some, None}
use Rattle.taped_records.specs.declared.making.Unmade.{Unmade}
use Rattle.taped_records.specs.declared.records.TapedRecords.{TapedRecords}
use Rattle.taped_records.specs.Making.{MakesTable, UnmadeCause, IsLeft, MayClose, status_of_unmade}
use Rattle.taped_records.specs.Status.{is_closed}

-- an array without the table: it is left so, or closed
abbrev pub IsLeftOrClosed : List ℕ → Unmade → TapedRecords → Option TapedRecords → Type 0
IsLeftOrClosed name unmade old None = MayClose unmade
IsLeftOrClosed name unmade old (Some new) = IsLeft name unmade old new

-- An open array has the table, whose number is told; or there is none for a reason that the status tells. A closed one stays closed.
abbrev pub Makes : (name : List ℕ) (was now : ℕ) → Option TapedRecords → Option TapedRecords → ℤ → Type 0
Makes name was now None new status = (new ≡ None) × (status ≡ is_closed) × (now ≡ was)
Makes name was now (Some old) new status =
    ((array : TapedRecords) × (new ≡ Some array) × (status ≡ pos 0) × MakesTable name now old array)
    ⊎ ((now ≡ was) × ((unmade : Unmade) × (status ≡ status_of_unmade unmade) × UnmadeCause name old unmade × IsLeftOrClosed name unmade old new))
