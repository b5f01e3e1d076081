use Rattle.noted.proofs.calls.LiveCallsWithRoom.push.Given as goal

abbrev pub ghost-then : goal.ghost-then
ghost-then g a = (a._from.now.0.now, a._from.now.1.now)
