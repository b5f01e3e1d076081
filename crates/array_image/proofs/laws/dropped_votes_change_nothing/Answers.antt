use Rattle.array_image.proofs.Clearing.{dropped_settled}
use Rattle.array_image.proofs.laws.dropped_votes_change_nothing.Goals as goal

pub returns : goal.returns
returns c bytes old image settled same = dropped_settled c.args.shape.now bytes old image settled same
