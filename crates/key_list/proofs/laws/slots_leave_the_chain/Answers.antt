use Rattle.key_list.specs.Resting.{sound_chains_rest}
use Rattle.key_list.proofs.laws.slots_leave_the_chain.Goals as goal

pub returns : goal.returns
returns c = sound_chains_rest
