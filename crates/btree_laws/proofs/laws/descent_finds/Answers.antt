use Rattle.btree_laws.proofs.Ways.{found_on_way, sound_tree_finds}
use Rattle.btree_laws.proofs.laws.descent_finds.Goals as goal

pub returns-clause-leaf : goal.returns-clause-leaf
returns-clause-leaf c = sound_tree_finds

pub returns-clause-step : goal.returns-clause-step
returns-clause-step c = found_on_way
