use Rattle.btree_laws.proofs.Small.{small_last, small_removed, small_right}
use Rattle.btree_laws.proofs.removals.what_is_left_is_small.Goals as goal

pub returns-clause-pairs : goal.returns-clause-pairs
returns-clause-pairs c = small_removed

pub returns-clause-right : goal.returns-clause-right
returns-clause-right c = small_right

pub returns-clause-last : goal.returns-clause-last
returns-clause-last c = small_last
