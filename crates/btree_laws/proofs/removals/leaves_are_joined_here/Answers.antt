use Rattle.btree_laws.proofs.Places.{join_place}
use Rattle.btree_laws.proofs.removals.leaves_are_joined_here.Goals as goal

pub returns : goal.returns
returns c = join_place
