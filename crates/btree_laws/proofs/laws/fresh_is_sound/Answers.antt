use Rattle.btree_laws.proofs.Fresh.{fresh_tree}
use Rattle.btree_laws.proofs.laws.fresh_is_sound.Goals as goal

pub returns : goal.returns
returns c = fresh_tree
