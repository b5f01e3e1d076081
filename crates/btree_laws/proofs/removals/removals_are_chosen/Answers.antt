use Rattle.btree_laws.proofs.Choosing.{loses_or_alone, neighbours}
use Rattle.btree_laws.proofs.removals.removals_are_chosen.Goals as goal

pub returns-clause-leaf : goal.returns-clause-leaf
returns-clause-leaf c = loses_or_alone

pub returns-clause-parent : goal.returns-clause-parent
returns-clause-parent c = neighbours
