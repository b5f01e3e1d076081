use Rattle.key_list.proofs.Losing.{freed_chain_loses}
use Rattle.key_list.proofs.Resting.{chain_stays}
use Rattle.key_list.proofs.laws.chain_removals_keep.Goals as goal

pub returns-clause-loses : goal.returns-clause-loses
returns-clause-loses c = freed_chain_loses

pub returns-clause-moved : goal.returns-clause-moved
returns-clause-moved c = chain_stays
