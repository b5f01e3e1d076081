use Rattle.caller_steps.proofs.Continuing.{continues_none, continues_step, continues_on, safe_on}
use Rattle.caller_steps.proofs.laws.prefix_law.Goals as goal

pub returns : goal.returns
returns g c = record {
  none = λ core sound safe. continues_none (g.C.Core.view core) sound safe;
  step = λ old new caller call reply told sound steps. continues_step g.C.Core.tells caller call (g.C.Core.view old) (g.C.Core.view new) reply sound steps told;
  on = λ old mid new. continues_on (g.C.Core.view old) (g.C.Core.view mid) (g.C.Core.view new);
  safe = λ old new. safe_on (g.C.Core.view old) (g.C.Core.view new);
}
