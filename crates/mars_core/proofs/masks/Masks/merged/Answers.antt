use Rattle.mars_core.proofs.Touching.{more_masks}
use Rattle.mars_core.proofs.masks.Masks.merged.Goals as goal

pub returns : goal.returns
returns c = λ one other is are. more_masks one other c.args.self c.args.more is are
