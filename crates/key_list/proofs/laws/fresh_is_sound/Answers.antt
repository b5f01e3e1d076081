use Rattle.key_list.specs.Fresh.{fresh_chain}
use Rattle.key_list.proofs.laws.fresh_is_sound.Goals as goal

pub returns : goal.returns
returns c = fresh_chain
