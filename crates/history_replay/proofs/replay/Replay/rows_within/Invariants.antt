use Rattle.std.proofs.Common.{◌≡◌, ◌++◌}
use Rattle.history_replay.proofs.Replaying.{listed}
use Rattle.history_replay.proofs.replay.Replay.rows_within.Given as goal

abbrev pub invariant-loop-key : goal.invariant-loop-key
invariant-loop-key l = l.rows ++ listed l.table l.low l.high l.key-iterator ≡ listed l.table l.low l.high l.self.table.entries
