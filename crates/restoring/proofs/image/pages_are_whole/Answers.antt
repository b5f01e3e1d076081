use Rattle.restoring.proofs.Wholes.{pages_whole}
use Rattle.restoring.proofs.image.pages_are_whole.Goals as goal

pub returns : goal.returns
returns c = pages_whole c.args.planned.now c.requires
