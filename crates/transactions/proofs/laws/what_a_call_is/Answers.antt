use Rattle.transactions.proofs.Going.{went_one, refuses_one}
use Rattle.transactions.proofs.Trying.{within_one}
use Rattle.transactions.proofs.laws.what_a_call_is.Goals as goal

pub returns : goal.returns
returns g c = record {
  went = λ old new caller call reply told steps. went_one caller (g.C.Core.view old) (g.C.Core.view new) call reply (steps.step told);
  within = λ old new caller call reply told is steps. within_one caller (g.C.Core.view old) (g.C.Core.view new) call reply is steps.limits (steps.step told);
  refused = λ old new caller call refusal told steps. refuses_one caller (g.C.Core.view old) (g.C.Core.view new) call refusal (steps.step told);
}
