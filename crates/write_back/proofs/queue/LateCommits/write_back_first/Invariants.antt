use Rattle.std.proofs.Common.{Result, Ok}
use Rattle.mars_base.specs.declared.Failed.{Failed}
use Rattle.write_back.specs.Steps.{WritesBack}
use Rattle.write_back.proofs.queue.LateCommits.write_back_first.Given as goal

abbrev pub invariant-loop-done : goal.invariant-loop-done
invariant-loop-done g l = let ok : Result (Unit {0}) Failed = Ok tt in WritesBack g.M.Media.tells l.shape l._done l.fn.self (g.M.Media.view l.fn.media) l.self (g.M.Media.view l.media) ok
