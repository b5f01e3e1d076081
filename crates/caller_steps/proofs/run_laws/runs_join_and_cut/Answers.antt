use Rattle.caller_steps.proofs.Running.{turns_on, turns_cut, turns_tell, turns_of_runs}
use Rattle.caller_steps.proofs.Refusing.{line_is}
use Rattle.caller_steps.proofs.run_laws.runs_join_and_cut.Goals as goal

pub returns : goal.returns
returns g = record {
  join = turns_on;
  cut = turns_cut;
  told = turns_tell;
  steps = turns_of_runs;
  turn = line_is;
}
