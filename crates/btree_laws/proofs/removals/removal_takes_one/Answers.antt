use Rattle.btree_laws.proofs.Removing.{found-removed, removed-one, removed-rises}
use Rattle.btree_laws.proofs.removals.removal_takes_one.Goals as goal

pub returns-clause-rises : goal.returns-clause-rises
returns-clause-rises c = removed-rises

pub returns-clause-found : goal.returns-clause-found
returns-clause-found c = found-removed

pub returns-clause-one_less : goal.returns-clause-one_less
returns-clause-one_less c = removed-one
