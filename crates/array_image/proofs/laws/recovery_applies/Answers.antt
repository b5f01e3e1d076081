use Rattle.array_image.proofs.Recovering.{applying_left, applying_after}
use Rattle.array_image.proofs.laws.recovery_applies.Goals as goal

pub returns-clause-during : goal.returns-clause-during
returns-clause-during c old image none lawful left = applying_left c.args.shape.now old none lawful image left

pub returns-clause-after : goal.returns-clause-after
returns-clause-after c old new none lawful touched none' written = applying_after c.args.shape.now old none lawful new touched none' written
