use Rattle.array_image.proofs.Clearing.{lowest_settled}
use Rattle.array_image.proofs.laws.lowest_votes_change_nothing.Goals as goal

pub returns : goal.returns
returns c order bytes old image small settled lowest same = lowest_settled c.args.shape.now order bytes old image small settled lowest same
