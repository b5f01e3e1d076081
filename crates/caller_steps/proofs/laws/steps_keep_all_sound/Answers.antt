use Rattle.caller_steps.proofs.Sound.{opened_sound, step_sound, runs_sound}
use Rattle.caller_steps.proofs.laws.steps_keep_all_sound.Goals as goal

pub returns : goal.returns
returns c = record {
  opened = opened_sound;
  step = λ limits old new caller call reply sound step. step_sound limits old caller call reply new sound step;
  runs = λ limits old new turns sound runs. runs_sound limits old turns new sound runs;
}
