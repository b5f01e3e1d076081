use Rattle.std.proofs.Common.{◌≡◌, false, [], replicate}
use Rattle.std.specs.Prelude.{vec_capacity}
use Rattle.mirror.proofs.primary.empty_logs.Given as goal

abbrev pub invariant-loop-number : goal.invariant-loop-number
invariant-loop-number l = record {
  logs : l.logs.items ≡ replicate l._number (record { is_live = false; parts = []; room = l.room });
  room : vec_capacity l.logs ≡ l.numbers;
}
