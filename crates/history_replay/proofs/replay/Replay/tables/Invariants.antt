use Rattle.std.proofs.Common.{◌≡◌, ◌++◌}
use Rattle.history.specs.Rows.{records_in}
use Rattle.history_replay.proofs.replay.Replay.tables.Given as goal

abbrev pub invariant-loop-key : goal.invariant-loop-key
invariant-loop-key l = records_in l.tables ++ l.key-iterator ≡ l.self.table.entries
