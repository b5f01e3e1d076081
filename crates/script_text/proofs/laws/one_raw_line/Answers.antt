use Rattle.script_text.proofs.EawOneLine.{same_eaw_line, same_meaning}
use Rattle.script_text.proofs.laws.one_raw_line.Goals as goal

pub returns-clause-text : goal.returns-clause-text
returns-clause-text c = same_eaw_line

pub returns-clause-means : goal.returns-clause-means
returns-clause-means c = same_meaning
