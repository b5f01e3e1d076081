use Rattle.std.proofs.Common.{ℕ, ◌*◌, ◌<◌, ◌≤◌}
use Rattle.restore_runs.proofs.sizing.fewest_pages.Given as goal

-- fewer pages have no room
abbrev pub invariant-loop-per : goal.invariant-loop-per
invariant-loop-per l = (fewer : ℕ) → 2 ≤ fewer → fewer < l.per → l.loggers * fewer < l.half
