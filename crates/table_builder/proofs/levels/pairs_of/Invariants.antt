use Rattle.std.proofs.Common.{◌≡◌, ◌+◌, ◌++◌, drop}
use Rattle.table_builder.specs.Image.{pairs_for}
use Rattle.table_builder.proofs.levels.pairs_of.Given as goal

abbrev pub invariant-loop-j : goal.invariant-loop-j
invariant-loop-j l = l.pairs.items ++ pairs_for (l.slot + l.j) (drop l.j l.rows) ≡ pairs_for l.slot l.rows
