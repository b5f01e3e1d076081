use Rattle.tape_media.specs.Pieces.{made_of}
use Rattle.tape_media.proofs.work.Work.done.Given as goal

abbrev pub ghost-then : goal.ghost-then
ghost-then a = made_of a._from.now
