use Rattle.key_list.specs.ChainFacts.{sound_chain_tiles, sound_chain_rises}
use Rattle.key_list.specs.Seen.{pieces_have}
use Rattle.key_list.specs.Resting.{sound_chain_given}
use Rattle.key_list.proofs.laws.chain_rises.Goals as goal

pub returns-clause-pairs : goal.returns-clause-pairs
returns-clause-pairs c = pieces_have

pub returns-clause-tiles : goal.returns-clause-tiles
returns-clause-tiles c = sound_chain_tiles

pub returns-clause-rises : goal.returns-clause-rises
returns-clause-rises c = sound_chain_rises

pub returns-clause-given : goal.returns-clause-given
returns-clause-given c = sound_chain_given
