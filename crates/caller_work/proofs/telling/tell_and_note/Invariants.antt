use Rattle.caller_work.proofs.telling.tell_and_note.Given as goal

abbrev pub ghost-then : goal.ghost-then
ghost-then g a = a._from.now
