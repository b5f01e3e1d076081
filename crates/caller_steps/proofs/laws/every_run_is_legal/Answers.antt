use Rattle.std.proofs.Common.{subst}
use Rattle.history.specs.Legal.{IsLegal}
use Rattle.caller_steps.specs.State.{opened}
use Rattle.caller_steps.proofs.Sound.{opened_sound, runs_sound}
use Rattle.caller_steps.proofs.Fates.{runs_base}
use Rattle.caller_steps.proofs.laws.every_run_is_legal.Goals as goal

pub returns : goal.returns
returns c limits names base index turns new runs =
    subst (λ b. IsLegal b new.history) (runs_base limits (opened names base index) turns new runs) (runs_sound limits (opened names base index) turns new (opened_sound names base index) runs).legal
