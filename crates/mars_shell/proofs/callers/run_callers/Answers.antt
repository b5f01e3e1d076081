use Rattle.std.proofs.Common.{[], true, false, ⊎_elim, refl, sym, subst, ◌∙◌}
use Rattle.std.proofs.lemmas.List.{append-nil}
use Rattle.reader_work.specs.Readership.{passes_for}
use Rattle.mars_shell.specs.Joint.{JointWork}
use Rattle.mars_shell.specs.Run.{TakesTurns}
use Rattle.array_runs.specs.Outcome.{OutcomeOf}
use Rattle.array_runs.specs.Statuses.{IsEarly, IsRefusal}
use Rattle.array_runs.specs.declared.status.Status.{Status}
use Rattle.array_runs.proofs.Endings.{served_late, served_refused, input_read}
use Rattle.mars_shell.proofs.Endings.{served, served_short}
use Rattle.mars_shell.proofs.Outcomes.{records_outcome, turns_none}
use Rattle.mars_shell.specs.Late.{depth_of}
use Rattle.mars_shell.proofs.Waiting.{handed_back, of_depth}
use Rattle.mars_shell.proofs.callers.run_callers.Goals as goal

pub open_for-requires : goal.open_for-requires
open_for-requires g c = of_depth c.args.crew.now.numbers.writing _ _ c.requires.of_type _ c.depth_of-depth.ensures.most c.depth_of-depth.ensures.depth

pub returns-in-Err-clause-ran : goal.returns-in-Err-clause-ran
returns-in-Err-clause-ran g c =
    let old = g.M.Media.view c.args.media in
    let new = g.M.Media.view c.in-Err.ended.1 in
    let input = g.S.Source.left c.args.source.now in
    record {
      cut = false;
      text = [];
      wrote = λ _. sym (append-nil _);
      counts = refl;
      holds = (
        input,
        (λ _. refl),
        λ told. turns_none (passes_for c.args.crew.now.numbers.callers c.args.crew.now.numbers.readers) (depth_of c.args.crew.now.numbers.writing) (λ ended. JointWork (g.G.Gate.told c.args.crew.now.gate.now) c.args.crew.now.numbers.callers c.args.crew.now.numbers.readers input ended false []) old c.in-Err.ended.0 new false [] (rw c.passes_for-passes.ensures at (c.in-Err.ensures.outcome told)),
      );
    }

pub returns-in-Err-clause-early : goal.returns-in-Err-clause-early
returns-in-Err-clause-early g c = λ early. (c.in-Err.ensures.early early).1

pub returns-in-Err-clause-counts : goal.returns-in-Err-clause-counts
returns-in-Err-clause-counts g c = c.in-Err.ensures.counts _

pub returns-in-Err-clause-steady : goal.returns-in-Err-clause-steady
returns-in-Err-clause-steady g c = c.in-Err.ensures.steady

pub returns-in-Err-clause-input : goal.returns-in-Err-clause-input
returns-in-Err-clause-input g c = c.in-Err.ensures.input refl

pub returns-clause-ran : goal.returns-clause-ran
returns-clause-ran g c =
    let media = g.M.Media in
    let met = (g.met.M.Media g.world.𝓛 g.world.𝓜 g.world.𝓡 ((λ s x. x), (λ x. x), (λ x. x), λ x. x)) in
    let old = media.view c.args.media in
    let new = media.view c.into_media.result in
    let said = c.serve_jointly-served.ensures.served in
    let input = c.in-Ok.opened.1.items in
    record {
      cut = said.cut;
      text = said.text;
      wrote = said.wrote;
      counts = said.counts;
      holds = (
        input,
        c.in-Ok.ensures.read refl,
        λ told.
            subst (λ (s : Status). OutcomeOf false true (passes_for c.args.crew.now.numbers.callers c.args.crew.now.numbers.readers) (λ ended. TakesTurns (depth_of c.args.crew.now.numbers.writing) (JointWork (g.G.Gate.told c.args.crew.now.gate.now) c.args.crew.now.numbers.callers c.args.crew.now.numbers.readers input ended said.cut said.text) old ended new) old s new said.cut said.text) (sym c.served_status.ensures)
            (records_outcome media.tells told old (met.only_now c.args.media) _ c.in-Ok.ensures.attached c.in-Ok.ensures.keeps (depth_of c.args.crew.now.numbers.writing) (c.in-Ok.ensures.limit ∙ c.depth_of-depth.ensures.depth) _ new (handed_back c.args.crew.now.numbers.writing _ _ c.requires.of_type _ _ _ c.into_media.ensures.behind _ c.into_media.ensures.most c.into_media.ensures.counted) (met.counts_now c.into_media.result)
            (passes_for c.args.crew.now.numbers.callers c.args.crew.now.numbers.readers) (rw c.passes_for-passes.ensures at c.in-Ok.ensures.enough) (λ ended. JointWork (g.G.Gate.told c.args.crew.now.gate.now) c.args.crew.now.numbers.callers c.args.crew.now.numbers.readers input ended said.cut said.text) c.serve_jointly-served.result.0 said.cut said.text (rw c.deref.ensures.value at (said.holds told))),
      );
    }

pub returns-clause-early : goal.returns-clause-early
returns-clause-early g c = λ early. absurd (served_late c.serve_jointly-served.result.0 (subst IsEarly c.served_status.ensures early))

pub returns-clause-silent : goal.returns-clause-silent
returns-clause-silent g c = λ either. ⊎_elim (λ early. absurd (served_late c.serve_jointly-served.result.0 (subst IsEarly c.served_status.ensures early)))
    (λ refused. served_refused _ c.serve_jointly-served.result.0 c.serve_jointly-served.ensures.untold (subst IsRefusal c.served_status.ensures refused)) either

pub returns-clause-counts : goal.returns-clause-counts
returns-clause-counts g c = served c.serve_jointly-served.result.0 c.served_status.result _ _ _ _ _ _ _ _ c.served_status.ensures c.in-Ok.ensures.kept c.in-Ok.ensures.attached.faults c.into_media.ensures.behind.faults c.serve_jointly-served.ensures.counts

pub returns-clause-steady : goal.returns-clause-steady
returns-clause-steady g c = λ steady is. served_late c.serve_jointly-served.result.0 (subst IsEarly c.served_status.ensures (subst IsEarly (sym is) tt))

pub returns-clause-input : goal.returns-clause-input
returns-clause-input g c = λ told.
    let read = c.in-Ok.ensures.ended refl told in
    input_read c.served_status.result _ _ (λ early. served_late c.serve_jointly-served.result.0 (subst IsEarly c.served_status.ensures early)) read.0 read.1

pub returns-clause-short : goal.returns-clause-short
returns-clause-short g c = λ is. served_short _ c.serve_jointly-served.result.0 c.serve_jointly-served.ensures.untold c.serve_jointly-served.ensures.short (sym c.served_status.ensures ∙ is)
