use Rattle.caller_steps.proofs.Shown.{shown_along, shown_one}
use Rattle.caller_steps.proofs.run_laws.what_data_shows.Goals as goal

pub returns : goal.returns
returns g = record { along = shown_along; one = shown_one }
