use Rattle.btree_laws.proofs.Splitting.{sound_tree_grows, sound_tree_splits}
use Rattle.btree_laws.proofs.Taking.{sound_tree_takes}
use Rattle.btree_laws.proofs.laws.tree_changes_keep.Goals as goal

pub returns-clause-takes : goal.returns-clause-takes
returns-clause-takes c = sound_tree_takes

pub returns-clause-splits : goal.returns-clause-splits
returns-clause-splits c = sound_tree_splits

pub returns-clause-grows : goal.returns-clause-grows
returns-clause-grows c = sound_tree_grows
