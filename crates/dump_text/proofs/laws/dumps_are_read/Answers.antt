use Rattle.dump_text.proofs.ReadAgain.{read_again}
use Rattle.dump_text.proofs.laws.dumps_are_read.Goals as goal

pub returns : goal.returns
returns c = λ records result are says. read_again records are result says
