use Rattle.caller_steps.specs.Own.{nothing_own}
use Rattle.caller_steps.proofs.Running.{turns_of_runs}
use Rattle.caller_steps.proofs.Owning.{turns_live, turns_mine, turns_doubt, turns_owner, fresh_live, fresh_mine, fresh_doubt}
use Rattle.caller_steps.proofs.run_laws.a_caller_knows_its_own.Goals as goal

pub returns : goal.returns
returns g = record {
  live = λ tells limits caller first now turns run none un sure. turns_live tells limits caller first now turns nothing_own run sure (fresh_live caller first none un);
  mine = λ limits caller first now turns run none un nothing. (turns_mine limits caller first now turns nothing_own (turns_of_runs limits first now turns run) (fresh_mine caller first none un nothing)).mine;
  doubt = λ limits caller first now turns run none un certain. (turns_doubt limits caller first now turns nothing_own (turns_of_runs limits first now turns run) (fresh_doubt caller first none un certain)).doubt;
  owner = λ limits callers first now turns run all free certain. turns_owner limits callers first now turns (turns_of_runs limits first now turns run) all free certain;
}
