use Rattle.caller_steps.proofs.First.{locks_first}
use Rattle.caller_steps.proofs.laws.locks_come_first.Goals as goal

pub returns : goal.returns
returns c = record {
  reply = λ limits old new caller holder calls call reply un is there blocks step. (locks_first limits old caller new holder calls call reply un is there blocks step).0;
  unchanged = λ limits old new caller holder calls call reply un is there blocks step. (locks_first limits old caller new holder calls call reply un is there blocks step).1;
}
