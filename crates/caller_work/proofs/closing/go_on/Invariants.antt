use Rattle.caller_work.proofs.closing.go_on.Given as goal

abbrev pub ghost-then : goal.ghost-then
ghost-then g a = a._from.now
