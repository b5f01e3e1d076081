use Rattle.caller_steps.proofs.Running.{turn_run, turn_told, turn_grows, turn_commits}
use Rattle.caller_steps.proofs.run_laws.what_was_seen_at_the_last_turn.Goals as goal

pub returns : goal.returns
returns g = record { run = turn_run; told = turn_told; grows = turn_grows; mine = turn_commits }
