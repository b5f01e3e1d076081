use Rattle.std.proofs.Common.{◌≡◌, ◌++◌}
use Rattle.std.specs.List.{All}
use Rattle.dump_text.specs.Dump.{AreRising}
use Rattle.dump_text.proofs.gathered.Gathered.into_tables.Given as goal

-- those so far, and those behind them
abbrev pub invariant-loop-name : goal.invariant-loop-name
invariant-loop-name l = (l.tables ++ l.name-iterator.rest.items ≡ l.fn.self) × All AreRising l.tables
