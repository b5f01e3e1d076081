use Rattle.array_image.proofs.Clearing.{higher_left}
use Rattle.array_image.proofs.Recovering.{lowest_left, lowest_after}
use Rattle.array_image.proofs.laws.recovery_clears.Goals as goal

pub returns-clause-during : goal.returns-clause-during
returns-clause-during c order bytes old image small recovering lowest left = lowest_left c.args.shape.now bytes old recovering order small lowest image left

pub returns-clause-after : goal.returns-clause-after
returns-clause-after c order bytes old new small recovering lowest touched none = lowest_after c.args.shape.now bytes old recovering order small lowest new touched none

pub returns-clause-next : goal.returns-clause-next
returns-clause-next c order old new lowest same none = higher_left c.args.shape.now order old new same lowest none
