use Rattle.btree_laws.specs.Resting.{sound_tree_given}
use Rattle.btree_laws.specs.TreeFacts.{sound_tree_rises, tree_tiles}
use Rattle.btree_laws.proofs.laws.tree_rises.Goals as goal

pub returns-clause-tiles : goal.returns-clause-tiles
returns-clause-tiles c = tree_tiles

pub returns-clause-rises : goal.returns-clause-rises
returns-clause-rises c = sound_tree_rises

pub returns-clause-given : goal.returns-clause-given
returns-clause-given c = sound_tree_given
