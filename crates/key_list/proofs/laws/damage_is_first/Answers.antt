use Rattle.key_list.specs.Seen.{chain_excludes, chain_first}
use Rattle.key_list.proofs.laws.damage_is_first.Goals as goal

pub returns-clause-sound : goal.returns-clause-sound
returns-clause-sound c = chain_excludes

pub returns-clause-one : goal.returns-clause-one
returns-clause-one c = chain_first
