use Rattle.std.proofs.Common.{◌≡◌, ◌-◌, length, drop}
use Rattle.history.specs.Rows.{table_of}
use Rattle.history_replay.specs.Replay.{table_in}
use Rattle.history_replay.proofs.replay.table_from.Given as goal

abbrev pub invariant-loop-i : goal.invariant-loop-i
invariant-loop-i l = table_in l.table ≡ table_of (drop (length l.tables - l.i) l.tables)
