use Rattle.array_image.proofs.Recovering.{dropped_left, dropped_after}
use Rattle.array_image.proofs.laws.recovery_drops.Goals as goal

pub returns-clause-during : goal.returns-clause-during
returns-clause-during c bytes old image recovering left = dropped_left c.args.shape.now bytes old recovering image left

pub returns-clause-after : goal.returns-clause-after
returns-clause-after c bytes old new recovering touched none = dropped_after c.args.shape.now bytes old recovering new touched none
