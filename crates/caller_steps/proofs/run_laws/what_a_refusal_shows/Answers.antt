use Rattle.caller_steps.proofs.Refusing.{refusal_shows}
use Rattle.caller_steps.proofs.run_laws.what_a_refusal_shows.Goals as goal

pub returns : goal.returns
returns g = refusal_shows
