use Rattle.std.proofs.Common.{ℕ, ◌<◌}
use Rattle.table_builder.specs.Plan.{HasOwnName}
use Rattle.table_builder.proofs.checking.are_apart.Given as goal

-- each table so far has a name of its own
abbrev pub invariant-loop-j : goal.invariant-loop-j
invariant-loop-j l = (k : ℕ) → k < l.j → HasOwnName l.tables k
