-- Rows that are kept by rising key.
use Rattle.std.specs.Prelude.{ℕ, ◌<◌, List, Option, Some, None}
use Rattle.std.specs.BTreeMap.{BTreeMap}
use Rattle.std.specs.List.{AllByRecursion}
use Rattle.history.specs.Writes.{Row}

-- those of the map, if there is one, or else those of the list
abbrev pub kept_rows : List Row → Option (BTreeMap ℕ (List ℕ)) → List Row
kept_rows list None = list
kept_rows list (Some map) = map.entries

-- the key of each row is below this one
abbrev pub AreBelow : ℕ → List Row → Type 0
AreBelow key rows = AllByRecursion (λ (row : Row). row.0 < key) rows
