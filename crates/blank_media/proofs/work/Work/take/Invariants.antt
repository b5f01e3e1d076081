use Rattle.blank_media.specs.Changes.{step_of}
use Rattle.blank_media.proofs.work.Work.take.Given as goal

abbrev pub ghost-then : goal.ghost-then
ghost-then a = record { moment = a._from.now.0; step = step_of a._from.now.1.now }
