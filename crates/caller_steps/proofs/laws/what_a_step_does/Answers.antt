use Rattle.caller_steps.proofs.Fates.{step_moves}
use Rattle.caller_steps.proofs.laws.what_a_step_does.Goals as goal

pub returns : goal.returns
returns c limits old new caller call reply step = step_moves limits old caller call reply new step
