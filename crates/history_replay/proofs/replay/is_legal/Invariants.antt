use Rattle.std.proofs.Common.{◌≡◌, take}
use Rattle.history.specs.Legal.{records, IsLegal}
use Rattle.history.specs.Rows.{table_of}
use Rattle.history_replay.specs.Replay.{work_in}
use Rattle.history_replay.proofs.replay.is_legal.Given as goal

abbrev pub invariant-loop-i : goal.invariant-loop-i
invariant-loop-i l = record {
  table : (work_in l.replay).table ≡ records (table_of l.base) (take l.i l.history);
  legal : IsLegal (table_of l.base) (take l.i l.history);
}
