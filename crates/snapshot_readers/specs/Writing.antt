-- What writes, and how many there were at each save, stand for on a table.
use Rattle.std.specs.Prelude.{ℕ, ◌≡◌, ◌≤◌, List, map, take, length, All, AllPairs}
use Rattle.history.specs.Writes.{Table, Write, all_written}
use Rattle.history.specs.Table.{Work}

-- Made on the table, they give what a transaction has, and its tables at the saves.
pub record Writes (table : Table) (writes : List Write) (saves : List ℕ) (work : Work) : Type 0 where
  pub now : work.table ≡ all_written table writes
  pub saved : work.saves ≡ map (λ count. all_written table (take count writes)) saves
  pub within : All (λ count. count ≤ length writes) saves
  pub rising : AllPairs (λ count later. count ≤ later) saves
