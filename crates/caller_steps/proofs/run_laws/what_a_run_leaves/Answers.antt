use Rattle.caller_steps.proofs.Running.{turns_names, turns_base, turns_grow, turns_dead, turns_still, turns_of_others, turns_no_others}
use Rattle.caller_steps.proofs.run_laws.what_a_run_leaves.Goals as goal

pub returns : goal.returns
returns g = record {
  names = turns_names;
  base = turns_base;
  grows = turns_grow;
  dead = turns_dead;
  still = turns_still;
  others = turns_of_others;
  nobody_else = turns_no_others;
}
