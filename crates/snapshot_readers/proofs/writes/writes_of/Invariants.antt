use Rattle.std.proofs.Common.{◌≡◌, take}
use Rattle.history.specs.Writes.{Table, all_written}
use Rattle.history.specs.Legal.{records}
use Rattle.snapshot_readers.proofs.writes.writes_of.Given as goal

abbrev pub invariant-loop-done : goal.invariant-loop-done
invariant-loop-done l = (table : Table) → all_written table l.writing.writes.items ≡ records table (take l.done-index l.dones)
