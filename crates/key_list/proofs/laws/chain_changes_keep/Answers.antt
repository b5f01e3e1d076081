use Rattle.key_list.proofs.ChainActions.{chain_of_table_finds, chain_of_table_takes, chain_of_table_splits}
use Rattle.key_list.proofs.laws.chain_changes_keep.Goals as goal

pub returns-clause-finds : goal.returns-clause-finds
returns-clause-finds c = chain_of_table_finds

pub returns-clause-takes : goal.returns-clause-takes
returns-clause-takes c = chain_of_table_takes

pub returns-clause-splits : goal.returns-clause-splits
returns-clause-splits c = chain_of_table_splits
