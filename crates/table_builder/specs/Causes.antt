-- Why no image is made of tables.
use Rattle.std.specs.Prelude.{ℕ, ◌≡◌, ◌*◌, ◌<◌, List, length}
use Rattle.history.specs.Rows.{NamedRows}
use Rattle.table_builder.specs.Plan.{AreSorted, BeginsWithMain, HasOwnName, index_for, rows_count}
use Rattle.table_builder.specs.declared.image.BuildFault.{BuildFault}
use Rattle.table_builder.specs.declared.image.BuildFault.TheVariants.{NotMain, TooManyTables, SameName, NotSorted, TooManyRows, TooFewPages, NoMemory}

-- The first table is not `main`, there are more than eight, two have one name, or the keys of one do not rise; there are fewer slots, or
-- pages, than they need, and the fault says how many that is; or memory ran out, which says nothing.
abbrev pub BuildCause : ℕ → ℕ → List NamedRows → BuildFault → Type 0
BuildCause fill half tables NotMain = ¬ BeginsWithMain tables
BuildCause fill half tables TooManyTables = 8 < length tables
BuildCause fill half tables SameName = ¬ ((j : ℕ) → HasOwnName tables j)
BuildCause fill half tables NotSorted = ¬ AreSorted tables
BuildCause fill half tables (TooManyRows needed) = (needed ≡ rows_count tables) × (8 * half < needed)
BuildCause fill half tables (TooFewPages needed) = (needed ≡ length (index_for fill tables)) × (half < needed)
BuildCause fill half tables NoMemory = Unit {0}
