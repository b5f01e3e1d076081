use Rattle.caller_steps.specs.Offers.{group_end}
use Rattle.caller_steps.proofs.Offering.{group_history}
use Rattle.caller_steps.proofs.Grouped.{group_sound, doubted_sound}
use Rattle.caller_steps.proofs.laws.groups_keep_all_sound.Goals as goal

pub returns : goal.returns
returns c = record {
  history = λ state callers. group_history state (group_end state callers) callers;
  sound = λ state callers sound alive. group_sound state sound alive callers;
  doubted = λ state callers sound alive. doubted_sound state sound alive callers;
}
