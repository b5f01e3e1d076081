use Rattle.std.proofs.Common.{◌≡◌, ◌+◌, ◌-◌, ◌*◌, ◌++◌, length, drop, take, replicate}
use Rattle.table_builder.specs.Plan.{slots_bytes, slots_from}
use Rattle.table_builder.proofs.slots.write_slots.Given as goal

-- so many slots are written, and zeros are behind them
abbrev pub invariant-loop-j : goal.invariant-loop-j
invariant-loop-j l = record {
  long : length l.out ≡ 512;
  all : take (64 * l.j) l.out ++ slots_bytes (take (8 - l.j) (drop (8 * l.k + l.j) (slots_from 0 l.tables))) ≡ slots_bytes (take 8 (drop (8 * l.k) (slots_from 0 l.tables)));
  rest : drop (64 * l.j) l.out ≡ replicate (512 - 64 * l.j) 0;
}
