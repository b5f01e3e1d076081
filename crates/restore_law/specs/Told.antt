-- Which tables a dump tells.
use Rattle.std.specs.Prelude.{ℕ, ◌≡◌, ◌⊎◌, ◌↔◌, List, Some}
use Rattle.std.specs.FinMap.{get}
use Rattle.std.specs.List.{Contains}
use Rattle.history.specs.Key.{main_name, of_table}
use Rattle.history.specs.Writes.{Table}

-- it is `main`, or some record is of the table of this name
abbrev pub IsTold : Table → List ℕ → Type 0
IsTold records name = (name ≡ main_name) ⊎ ((key : ℕ) × (value : List ℕ) × (get records (of_table name key) ≡ Some value))

-- Of these tables, those that a dump of the records tells: `main`, and each that has a record. A table without records is in no dump.
abbrev pub AreTold : List (List ℕ) → Table → List (List ℕ) → Type 0
AreTold names records told = (name : List ℕ) → Contains told name ↔ (Contains names name × IsTold records name)
