use Rattle.array_shape.proofs.Sets.{none_in, none_has}
use Rattle.array_shape.proofs.number_set.NumberSet.empty.Goals as goal

pub returns-clause-none : goal.returns-clause-none
returns-clause-none c = none_in

pub returns-clause-lacks : goal.returns-clause-lacks
returns-clause-lacks c = none_has
