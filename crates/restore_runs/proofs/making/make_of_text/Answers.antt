use Rattle.std.proofs.Common.{subst}
use Rattle.restore_runs.specs.Making.{MakesFrom}
use Rattle.restore_runs.proofs.Outcomes.{made_of_text}
use Rattle.restore_runs.proofs.making.make_of_text.Goals as goal

pub returns-in-Ok-clause-made : goal.returns-in-Ok-clause-made
returns-in-Ok-clause-made c = made_of_text c.args.asked.now c.args.text.now c.in-Ok.tables c.make_of.result c.in-Ok.ensures c.make_of.ensures

pub returns-in-Ok-clause-read : goal.returns-in-Ok-clause-read
returns-in-Ok-clause-read c = λ is. subst (λ made. MakesFrom c.args.asked.now c.in-Ok.tables made) is c.make_of.ensures
