use Rattle.btree_laws.specs.Sound.{sound_seen, sound_passes, tree_single}
use Rattle.btree_laws.proofs.laws.checks_have_one_verdict.Goals as goal

pub returns-clause-passes : goal.returns-clause-passes
returns-clause-passes c = λ root bytes own. (sound_seen root bytes own, sound_passes root bytes)

pub returns-clause-single : goal.returns-clause-single
returns-clause-single c = tree_single
