use Rattle.noted.proofs.base.Base.push.Given as goal

abbrev pub ghost-then : goal.ghost-then
ghost-then g a = (a._from.now.0.now, a._from.now.1.now.said)
