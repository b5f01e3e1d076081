use Rattle.std.proofs.Common.{◌≡◌, take}
use Rattle.history.specs.Legal.{records}
use Rattle.history.specs.Rows.{table_of}
use Rattle.history_replay.specs.Replay.{work_in}
use Rattle.history_replay.proofs.replay.play.Given as goal

abbrev pub invariant-loop-done : goal.invariant-loop-done
invariant-loop-done l = (work_in l.replay).table ≡ records (table_of l.base) (take l.done-index l.history)
