use Rattle.script_text.proofs.OneLine.{same_line, same_told}
use Rattle.script_text.proofs.laws.one_line.Goals as goal

pub returns-clause-text : goal.returns-clause-text
returns-clause-text c = same_line

pub returns-clause-says : goal.returns-clause-says
returns-clause-says c = same_told
