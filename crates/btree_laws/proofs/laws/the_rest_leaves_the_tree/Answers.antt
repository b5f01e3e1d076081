use Rattle.btree_laws.proofs.Moving.{other_page_apart, sound_tree_moved}
use Rattle.btree_laws.specs.Resting.{sound_tree_rests}
use Rattle.btree_laws.proofs.laws.the_rest_leaves_the_tree.Goals as goal

pub returns-clause-rests : goal.returns-clause-rests
returns-clause-rests c = sound_tree_rests

pub returns-clause-moved : goal.returns-clause-moved
returns-clause-moved c = sound_tree_moved

pub returns-clause-apart : goal.returns-clause-apart
returns-clause-apart c = other_page_apart
