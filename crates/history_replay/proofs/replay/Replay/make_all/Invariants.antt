use Rattle.std.proofs.Common.{◌≡◌, length}
use Rattle.history.specs.Table.{begun, worked}
use Rattle.history_replay.specs.Replay.{work_in}
use Rattle.history_replay.proofs.replay.Replay.make_all.Given as goal

abbrev pub invariant-loop-call : goal.invariant-loop-call
invariant-loop-call l = worked (work_in l.self) l.left ≡ worked (begun (work_in l.fn.self).table) l.calls

abbrev pub decreases-loop-call : goal.decreases-loop-call
decreases-loop-call l = length l.left
