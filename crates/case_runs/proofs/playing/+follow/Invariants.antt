-- Each call has one run less.
use Rattle.std.proofs.Common.{length}
use Rattle.case_runs.proofs.playing.+follow.Given as goal

abbrev pub decreases-follow : goal.decreases-follow
decreases-follow g l = length l.runs.now
