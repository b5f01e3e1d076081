use Rattle.caller_steps.proofs.Trying.{purge_loses}
use Rattle.caller_steps.proofs.laws.what_a_purge_takes_out.Goals as goal

pub returns : goal.returns
returns g = record { lost = λ limits old new n purges. purge_loses limits old n new purges }
