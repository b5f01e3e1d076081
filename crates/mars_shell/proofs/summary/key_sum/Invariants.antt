use Rattle.std.proofs.Common.{◌≡◌, take}
use Rattle.mars_shell.specs.Tally.{key_sum}
use Rattle.mars_shell.proofs.summary.key_sum.Given as goal

-- the sum so far
abbrev pub invariant-loop-row : goal.invariant-loop-row
invariant-loop-row l = l.sum ≡ key_sum (take l.row-index l.rows)
