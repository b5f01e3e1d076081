use Rattle.std.proofs.Common.{refl}
use Rattle.caller_steps.proofs.Shown.{shown_runs, shown_join, shown_end, shown_index}
use Rattle.caller_steps.proofs.run_laws.what_shown_runs_say.Goals as goal

pub returns : goal.returns
returns g c = record {
  runs = λ core limits first now turns run. shown_runs (g.C.Core.view core).shows limits first now turns run;
  join = λ core limits first mid now xs ys one other. shown_join (g.C.Core.view core).shows limits first mid now xs ys one other;
  end = λ core limits first now turns begun run alive. shown_end (g.C.Core.view core).shows limits first now turns begun run alive;
  index = λ core limits of tells one other first last xs ys begun began run ran alive living same. shown_index (g.C.Core.view core).shows limits of tells one other first last xs ys begun began run ran alive living same;
  step = λ old new caller call reply told begun steps. ((g.C.Core.view new).state, steps.step told, λ alive. (steps.shows (g.C.Core.view new).state).1 (steps.shown told begun alive), refl);
}
