-- What waits in a feed.
use Rattle.std.specs.Prelude.{◌≡◌, List, [], ◌∷◌, ◌++◌}
use Rattle.std.specs.Global.{Vec}
use Rattle.history.specs.declared.transaction.Done.{Done}
use Rattle.history.specs.Writes.{Table, Write as Written, all_written}
use Rattle.history.specs.Legal.{records}
use Rattle.snapshot_readers.specs.declared.snapshot.Change.{Change}
use Rattle.snapshot_readers.specs.declared.snapshot.Change.TheVariants.{Write}

-- one change more waits, which makes the writes of all of these transactions
abbrev pub IsWaiting : (before now : List Change) → List Done → Type 0
IsWaiting before now dones = (writes : Vec Written) × (now ≡ before ++ Write writes ∷ []) × ((table : Table) → records table dones ≡ all_written table writes.items)
