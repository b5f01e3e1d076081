use Rattle.std.proofs.Common.{◌≡◌, ◌-◌, length, drop}
use Rattle.history_replay.specs.Replay.{table_in, with_rows}
use Rattle.history_replay.proofs.replay.put_rows.Given as goal

abbrev pub invariant-loop-i : goal.invariant-loop-i
invariant-loop-i l = table_in l.table ≡ with_rows (table_in l.fn.table) l.name (drop (length l.rows - l.i) l.rows)
