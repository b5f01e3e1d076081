use Rattle.std.proofs.Common.{◌≡◌, ◌+◌, ◌-◌, ◌*◌, ◌++◌, length, drop, take, replicate}
use Rattle.table_builder.specs.Plan.{entries_bytes, entries_from}
use Rattle.table_builder.proofs.front.entries_of.Given as goal

-- so many entries are written, and zeros are behind them
abbrev pub invariant-loop-j : goal.invariant-loop-j
invariant-loop-j l = record {
  long : length l.entries ≡ 256;
  all : take (32 * l.j) l.entries ++ entries_bytes (entries_from (1 + l.j) (drop l.j l.tables)) ≡ entries_bytes (entries_from 1 l.tables);
  rest : drop (32 * l.j) l.entries ≡ replicate (256 - 32 * l.j) 0;
}
