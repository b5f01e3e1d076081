use Rattle.tape_media.proofs.work.Work.new.Given as goal

abbrev pub ghost-of : goal.ghost-of
ghost-of a = a._from.now
