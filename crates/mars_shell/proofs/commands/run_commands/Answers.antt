use Rattle.std.proofs.Common.{[], true, false, refl, sym, subst}
use Rattle.std.proofs.lemmas.List.{append-nil}
use Rattle.command_words.specs.declared.words.Words.TheVariants.{Eaw}
use Rattle.mars_shell.specs.Asked.{OutcomeFor}
use Rattle.mars_shell.specs.Commands.{ObeysAs}
use Rattle.array_runs.specs.declared.status.Status.{Status}
use Rattle.mars_shell.proofs.Commanding.{obeys_as}
use Rattle.mars_shell.proofs.Endings.{spares_of}
use Rattle.array_runs.proofs.Statuses.{outcome_of}
use Rattle.array_runs.proofs.Unopened.{unopened_as}
use Rattle.array_runs.specs.Opening.{IsUnopened}
use Rattle.array_runs.specs.Statuses.{IsEarly, IsRefusal}
use Rattle.array_runs.proofs.Endings.{counts_unwritten, script_late, script_accepted, scripted, input_read}
use Rattle.mars_shell.proofs.commands.run_commands.Goals as goal

pub returns-in-Err-clause-ran : goal.returns-in-Err-clause-ran
returns-in-Err-clause-ran g c =
    let old = g.M.Media.view c.args.media in
    let new = g.M.Media.view c.in-Err.ended.1 in
    let input = g.S.Source.left c.args.source.now in
    record {
      cut = false;
      text = [];
      wrote = λ _. sym (append-nil _);
      counts = refl;
      holds = (input, (λ _. refl), λ told. unopened_as (λ ended. ObeysAs c.args.options.frames old input ended new false []) false 0 old c.in-Err.ended.0 new c.in-Err.ensures.kind (c.in-Err.ensures.unopened told));
    }

pub returns-clause-ran : goal.returns-clause-ran
returns-clause-ran g c =
    let media = g.M.Media in
    let old = media.view c.args.media in
    let new = media.view c.into_media.result in
    let ended = c.answer_script-ended.result.0 in
    let said = c.answer_script-ended.ensures in
    let input = c.in-Ok.opened.0.items in
    record {
      cut = said.ran.cut;
      text = said.ran.text;
      wrote = said.ran.wrote;
      counts = said.ran.counts;
      holds = (
        input,
        c.in-Ok.ensures.read refl,
        λ told.
            subst (λ (s : Status). OutcomeFor (Eaw c.args.options) (λ place. Unit {0}) old s new input said.ran.cut said.ran.text) (sym c.script_status.ensures)
            (outcome_of true (λ end. ObeysAs c.args.options.frames old input end new said.ran.cut said.ran.text) false 0 old new said.ran.cut said.ran.text ended
            (obeys_as media.tells told old (g.met.M.Media.only_now c.args.media) _ c.in-Ok.ensures.attached c.in-Ok.ensures.keeps _ new c.into_media.ensures.behind (g.met.M.Media.counts_now c.into_media.result)
            input ended said.ran.cut said.ran.text said.alive c.args.options.frames (rw c.deref.ensures.value at (said.ran.holds told)))),
      );
    }

pub returns-in-Err-clause-spares : goal.returns-in-Err-clause-spares
returns-in-Err-clause-spares g c = record { no_usage = λ is. subst IsUnopened is c.in-Err.ensures.kind; early = λ early. (c.in-Err.ensures.early early).1; silent = λ either. refl }

pub returns-in-Err-clause-counts : goal.returns-in-Err-clause-counts
returns-in-Err-clause-counts g c = counts_unwritten c.in-Err.ended.0 _ _ _ _ _ c.in-Err.ensures.kind c.in-Err.ensures.counts

pub returns-in-Err-clause-steady : goal.returns-in-Err-clause-steady
returns-in-Err-clause-steady g c = λ steady. c.in-Err.ensures.steady steady

pub returns-in-Err-clause-input : goal.returns-in-Err-clause-input
returns-in-Err-clause-input g c = c.in-Err.ensures.input refl

pub returns-clause-spares : goal.returns-clause-spares
returns-clause-spares g c =
    let ended = c.answer_script-ended.result.0 in
    spares_of c.script_status.result _ _ (λ is. script_accepted ended (subst IsRefusal c.script_status.ensures (subst IsRefusal (sym is) tt))) (λ early. script_late ended (subst IsEarly c.script_status.ensures early))
    (λ refused. absurd (script_accepted ended (subst IsRefusal c.script_status.ensures refused)))

pub returns-clause-counts : goal.returns-clause-counts
returns-clause-counts g c = scripted c.answer_script-ended.result.0 c.script_status.result _ _ _ _ _ _ _ _ c.script_status.ensures c.in-Ok.ensures.kept c.in-Ok.ensures.attached.faults c.into_media.ensures.behind.faults c.answer_script-ended.ensures.counts

pub returns-clause-steady : goal.returns-clause-steady
returns-clause-steady g c = λ steady is. script_late c.answer_script-ended.result.0 (subst IsEarly c.script_status.ensures (subst IsEarly (sym is) tt))

pub returns-clause-input : goal.returns-clause-input
returns-clause-input g c = λ told.
    let read = c.in-Ok.ensures.ended refl told in
    input_read c.script_status.result _ _ (λ early. script_late c.answer_script-ended.result.0 (subst IsEarly c.script_status.ensures early)) read.0 read.1
