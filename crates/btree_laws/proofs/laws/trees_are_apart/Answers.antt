use Rattle.btree_laws.proofs.Differing.{trees_apart}
use Rattle.btree_laws.proofs.laws.trees_are_apart.Goals as goal

pub returns : goal.returns
returns c = trees_apart
