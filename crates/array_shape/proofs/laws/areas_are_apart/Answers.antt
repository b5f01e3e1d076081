use Rattle.array_shape.proofs.Apart.{areas_inside, areas_apart}
use Rattle.array_shape.proofs.laws.areas_are_apart.Goals as goal

pub returns-clause-inside : goal.returns-clause-inside
returns-clause-inside c = areas_inside c.args.shape.now

pub returns-clause-apart : goal.returns-clause-apart
returns-clause-apart c = areas_apart c.args.shape.now
