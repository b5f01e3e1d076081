use Rattle.std.proofs.Common.{ℕ, Bool, List, [], false, Result, ⊎_elim, refl, sym, subst}
use Rattle.std.proofs.lemmas.List.{append-nil}
use Rattle.array_runs.specs.declared.status.Status.{Status}
use Rattle.told_commands.specs.Told.{said, Tells}
use Rattle.told_commands.proofs.Telling.{ran_of, idle_over, untaken_over}
use Rattle.told_commands.proofs.running.run_told.Goals as goal

pub returns-in-Err-clause-ran : goal.returns-in-Err-clause-ran
returns-in-Err-clause-ran g c =
    let old = g.M.Media.view c.args.media in
    let new = g.M.Media.view c.in-Err.ended.1 in
    record {
      cut = false;
      text = [];
      wrote = λ _. sym (append-nil _);
      counts = refl;
      holds = λ told. c.laws.ensures.none c.args.media c.in-Err.ended.1 c.in-Err.ended.0 (idle_over g.W.ToldWork.spares old c.in-Err.ended.0 new (c.in-Err.ensures.outcome told));
    }

pub returns-clause-ran : goal.returns-clause-ran
returns-clause-ran g c =
    let met = (g.met.M.Media g.world.𝓛 g.world.𝓜 g.world.𝓡 ((λ s x. x), (λ x. x), (λ x. x), λ x. x)) in
    let media = g.M.Media in
    let old = media.view c.args.media in
    let new = media.view c.into_media.result in
    let work = g.W.ToldWork in
    let told = c.tell.ensures.told in
    let ran = ran_of media.tells old _ _ new (met.only_now c.args.media) c.in-Ok.ensures.attached c.in-Ok.ensures.keeps c.in-Ok.ensures.limit c.into_media.ensures.behind (met.counts_now c.into_media.result) in
    record {
      cut = told.cut;
      text = told.text;
      wrote = told.wrote;
      counts = told.counts;
      holds = λ tells. ⊎_elim
          (λ done. c.laws.ensures.done c.args.media c.into_media.result c.in-Ok.opened.2 done.0 c.work_over-end.result.1 done.1 (said c.work_over-end.result.0) c.tell.result told.cut told.text tells ran done.2 done.3 told.holds)
          (λ off.
          let end = subst (λ (e : Result (List ℕ) Status). Tells e c.tell.result told.cut told.text) off.1 told.holds in
          subst (λ (x : Status × Bool × List ℕ). work.comes c.args.work.now old x.0 new x.1 x.2) (λ i. (sym end.0 i, sym end.1 i, sym end.2 i))
          (c.laws.ensures.none c.args.media c.into_media.result _ (untaken_over media.tells tells old _ _ new ran work.spares off.0 (off.2 tells))))
          c.work_over-end.ensures.leaves;
    }
