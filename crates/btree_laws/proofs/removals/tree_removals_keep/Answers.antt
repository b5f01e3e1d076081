use Rattle.btree_laws.proofs.Whole.{freed_joins_left, freed_joins_right, freed_loses}
use Rattle.btree_laws.proofs.removals.tree_removals_keep.Goals as goal

pub returns-clause-loses : goal.returns-clause-loses
returns-clause-loses c = λ root old new key slot sound keeps is front after lt loses kept. freed_loses root old new key slot sound keeps front after is lt loses kept

pub returns-clause-joins_right : goal.returns-clause-joins_right
returns-clause-joins_right c = λ root old new key slot sound keeps is front after lt d level joins kept. freed_joins_right root old new key slot sound keeps front after is lt d level joins kept

pub returns-clause-joins_left : goal.returns-clause-joins_left
returns-clause-joins_left c = λ root old new key slot sound keeps is front after lt d level joins kept. freed_joins_left root old new key slot sound keeps front after is lt d level joins kept
