use Rattle.std.proofs.Common.{◌≡◌, length}
use Rattle.history.specs.Writes.{Table, all_written}
use Rattle.history.specs.Table.{Work, begun, worked}
use Rattle.snapshot_readers.specs.Writing.{Writes}
use Rattle.snapshot_readers.proofs.writes.Writing.make_all.Given as goal

-- the writes so far stand for some work, from which the calls that are left come to what all of them come to
abbrev pub invariant-loop-call : goal.invariant-loop-call
invariant-loop-call l = (table : Table) → (work : Work) × Writes table l.self.writes.items l.self.saves.items work
    × (worked work l.left ≡ worked (begun (all_written table l.fn.self.writes.items)) l.calls)

abbrev pub decreases-loop-call : goal.decreases-loop-call
decreases-loop-call l = length l.left
