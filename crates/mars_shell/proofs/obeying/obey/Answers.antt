use Rattle.std.proofs.Common.{◌≡◌, [], ⊎_elim, refl, subst, arith}
use Rattle.std.specs.Prelude.{true, false}
use Rattle.command_words.specs.Asked.{AsksFor}
use Rattle.std.proofs.lemmas.Bool.{false≢true}
use Rattle.mars_shell.specs.Commands.{ObeysAs}
use Rattle.mars_shell.specs.Drill.{Drills}
use Rattle.array_runs.proofs.Endings.{is_early, silent_kind, counts_unread, read_fault_early}
use Rattle.mars_shell.proofs.Endings.{format_late}
use Rattle.mars_shell.proofs.FormatLemmas.{no_usage, format_untold}
use Rattle.reader_work.specs.Readership.{passes_for}
use Rattle.mars_shell.specs.Joint.{JointWork}
use Rattle.mars_shell.specs.Late.{depth_of}
use Rattle.mars_shell.specs.Run.{TakesTurns}
use Rattle.mars_shell.specs.FramedRun.{RunsAs}
use Rattle.array_runs.proofs.Completing.{nothing_read, complete_of, complete_records}
use Rattle.told_commands.proofs.Clearing.{complete_purge}
use Rattle.told_commands.proofs.Dumping.{complete_dump}
use Rattle.mars_shell.proofs.FramesFollowed.{complete_follow}
use Rattle.told_commands.proofs.Tabling.{complete_make}
use Rattle.mars_shell.proofs.Waiting.{callers_depth, callers_few, readers_few}
use Rattle.mars_shell.proofs.obeying.obey.Goals as goal

pub returns-in-Run-clause-early : goal.returns-in-Run-clause-early
returns-in-Run-clause-early g c = λ either. c.run_lines.ensures.spares.early (is_early c.run_lines.result.0 either)

pub returns-in-Run-clause-silent : goal.returns-in-Run-clause-silent
returns-in-Run-clause-silent g c = λ silent. c.run_lines.ensures.spares.silent (silent_kind c.run_lines.result.0 silent)

pub returns-in-Run-clause-counts : goal.returns-in-Run-clause-counts
returns-in-Run-clause-counts g c = c.run_lines.ensures.counts

pub returns-in-Run-clause-steady : goal.returns-in-Run-clause-steady
returns-in-Run-clause-steady g c = c.run_lines.ensures.steady

pub returns-in-Run-clause-input : goal.returns-in-Run-clause-input
returns-in-Run-clause-input g c = rw c.in-Run.is c.run_lines.ensures.input

pub returns-in-Run-clause-formats : goal.returns-in-Run-clause-formats
returns-in-Run-clause-formats g c = rw c.in-Run.is (λ numbers is. absurd (let no : ⊥ = cc is in no))

pub returns-in-Run-clause-untold : goal.returns-in-Run-clause-untold
returns-in-Run-clause-untold g c = rw c.in-Run.is (λ is. absurd is)

pub returns-in-Run-clause-ran : goal.returns-in-Run-clause-ran
returns-in-Run-clause-ran g c = rw c.in-Run.is c.run_lines.ensures.ran

pub returns-in-Run-clause-complete : goal.returns-in-Run-clause-complete
returns-in-Run-clause-complete g c =
    let old = g.M.Media.view c.args.media in
    let new = g.M.Media.view c.run_lines.result.1 in
    let given = g.S.Source.left c.args.source.now in
    let options = c.in-Run.options in
    let said = c.run_lines.ensures in
    let ran = said.ran in
    rw c.in-Run.is (λ fit no_source no_sink no_media.
    complete_records false 0 (λ ended. RunsAs options.frames (depth_of options.writing) ran.holds.0 ran.cut ran.text old ended new) old c.run_lines.result.0 new ran.cut ran.text given _ _ _ _ _ _ _ fit.0.1 fit.2.0 fit.2.1 (omega arith) no_source no_sink no_media said.counts (said.input fit.0.0) (ran.holds.2 fit.1))

pub returns-in-Callers-clause-early : goal.returns-in-Callers-clause-early
returns-in-Callers-clause-early g c = λ either. c.run_callers.ensures.early (is_early c.run_callers.result.0 either)

pub returns-in-Callers-clause-silent : goal.returns-in-Callers-clause-silent
returns-in-Callers-clause-silent g c = λ silent. c.run_callers.ensures.silent (silent_kind c.run_callers.result.0 silent)

pub returns-in-Callers-clause-shut : goal.returns-in-Callers-clause-shut
returns-in-Callers-clause-shut g c = λ none. absurd (none c.in-Callers.numbers c.in-Callers.is)

pub returns-in-Callers-clause-counts : goal.returns-in-Callers-clause-counts
returns-in-Callers-clause-counts g c = c.run_callers.ensures.counts

pub returns-in-Callers-clause-steady : goal.returns-in-Callers-clause-steady
returns-in-Callers-clause-steady g c = c.run_callers.ensures.steady

pub returns-in-Callers-clause-input : goal.returns-in-Callers-clause-input
returns-in-Callers-clause-input g c = rw c.in-Callers.is c.run_callers.ensures.input

pub returns-in-Callers-clause-formats : goal.returns-in-Callers-clause-formats
returns-in-Callers-clause-formats g c = rw c.in-Callers.is (λ numbers is. absurd (let no : ⊥ = cc is in no))

pub returns-in-Callers-clause-untold : goal.returns-in-Callers-clause-untold
returns-in-Callers-clause-untold g c = rw c.in-Callers.is c.run_callers.ensures.short

pub returns-in-Callers-clause-ran : goal.returns-in-Callers-clause-ran
returns-in-Callers-clause-ran g c = rw c.in-Callers.is (rw c.open-gate.ensures.gate at c.run_callers.ensures.ran)

pub returns-in-Callers-clause-complete : goal.returns-in-Callers-clause-complete
returns-in-Callers-clause-complete g c =
    let old = g.M.Media.view c.args.media in
    let new = g.M.Media.view c.run_callers.result.1 in
    let given = g.S.Source.left c.args.source.now in
    let numbers = c.in-Callers.numbers in
    let said = c.run_callers.ensures in
    let ran = rw c.open-gate.ensures.gate at said.ran in
    rw c.in-Callers.is (λ fit no_source no_sink no_media.
    complete_records false (passes_for numbers.callers numbers.readers) (λ ended. TakesTurns (depth_of numbers.writing) (JointWork (g.W.Behind.Gate.told (g.W.Doorway.gate c.args.doorway.now)) numbers.callers numbers.readers ran.holds.0 ended ran.cut ran.text) old ended new) old c.run_callers.result.0 new ran.cut ran.text given _ _ _ _ _ _ _ fit.0.1 fit.2.0 fit.2.1 fit.2.2 no_source no_sink no_media said.counts (said.input fit.0.0) (ran.holds.2 fit.1))

pub returns-in-Dump-clause-early : goal.returns-in-Dump-clause-early
returns-in-Dump-clause-early g c = λ either. absurd (c.run_told.ensures.late (is_early c.run_told.result.0 either))

pub returns-in-Dump-clause-silent : goal.returns-in-Dump-clause-silent
returns-in-Dump-clause-silent g c = λ silent. ⊎_elim (λ early. absurd (c.run_told.ensures.late early)) c.run_told.ensures.refused (silent_kind c.run_told.result.0 silent)

pub returns-in-Dump-clause-counts : goal.returns-in-Dump-clause-counts
returns-in-Dump-clause-counts g c = c.run_told.ensures.counts

pub returns-in-Dump-clause-steady : goal.returns-in-Dump-clause-steady
returns-in-Dump-clause-steady g c = λ steady is. c.run_told.ensures.late (read_fault_early c.run_told.result.0 is)

pub returns-in-Dump-clause-input : goal.returns-in-Dump-clause-input
returns-in-Dump-clause-input g c = rw c.in-Dump.is c.run_told.ensures.unread

pub returns-in-Dump-clause-formats : goal.returns-in-Dump-clause-formats
returns-in-Dump-clause-formats g c = rw c.in-Dump.is (λ numbers is. absurd (let no : ⊥ = cc is in no))

pub returns-in-Dump-clause-untold : goal.returns-in-Dump-clause-untold
returns-in-Dump-clause-untold g c = rw c.in-Dump.is c.run_told.ensures.untold

pub returns-in-Dump-clause-ran : goal.returns-in-Dump-clause-ran
returns-in-Dump-clause-ran g c =
    let ran = c.run_told.ensures.ran in
    rw c.in-Dump.is (record { cut = ran.cut; text = ran.text; wrote = ran.wrote; counts = ran.counts; holds = (g.S.Source.left c.args.source.now, (λ _. refl), ran.holds) })

pub returns-in-Dump-clause-complete : goal.returns-in-Dump-clause-complete
returns-in-Dump-clause-complete g c =
    let old = g.M.Media.view c.args.media in
    let new = g.M.Media.view c.run_told.result.1 in
    let said = c.run_told.ensures in
    rw c.in-Dump.is (λ fit no_source no_sink no_media.
    complete_dump old new said.ran.cut said.ran.text _ _ _ _ _ _ fit.2.0 fit.2.1 no_source no_sink no_media c.run_told.result.0 said.late said.counts (said.ran.holds fit.1))

pub returns-in-Drill-clause-early : goal.returns-in-Drill-clause-early
returns-in-Drill-clause-early g c = λ either. (c.over_records.ensures.early (is_early c.over_records.result.0 either)).1

pub returns-in-Drill-clause-silent : goal.returns-in-Drill-clause-silent
returns-in-Drill-clause-silent g c = λ silent. c.over_records.ensures.silent (silent_kind c.over_records.result.0 silent)

pub returns-in-Drill-clause-counts : goal.returns-in-Drill-clause-counts
returns-in-Drill-clause-counts g c = c.over_records.ensures.counts

pub returns-in-Drill-clause-steady : goal.returns-in-Drill-clause-steady
returns-in-Drill-clause-steady g c = c.over_records.ensures.steady

pub returns-in-Drill-clause-input : goal.returns-in-Drill-clause-input
returns-in-Drill-clause-input g c = rw c.in-Drill.is (c.over_records.ensures.unread refl)

pub returns-in-Drill-clause-formats : goal.returns-in-Drill-clause-formats
returns-in-Drill-clause-formats g c = rw c.in-Drill.is (λ numbers is. absurd (let no : ⊥ = cc is in no))

pub returns-in-Drill-clause-untold : goal.returns-in-Drill-clause-untold
returns-in-Drill-clause-untold g c = rw c.in-Drill.is (c.over_records.ensures.short refl)

pub returns-in-Drill-clause-ran : goal.returns-in-Drill-clause-ran
returns-in-Drill-clause-ran g c =
    let old = g.M.Media.view c.args.media in
    let new = g.M.Media.view c.over_records.result.1 in
    let numbers = c.in-Drill.numbers in
    let ran = c.over_records.ensures.ran in
    rw c.in-Drill.is (record { cut = ran.cut; text = ran.text; wrote = ran.wrote; counts = ran.counts; holds = (g.S.Source.left c.args.source.now, (λ _. refl), λ told. ran.holds.2 told) })

pub returns-in-Drill-clause-complete : goal.returns-in-Drill-clause-complete
returns-in-Drill-clause-complete g c =
    let old = g.M.Media.view c.args.media in
    let new = g.M.Media.view c.over_records.result.1 in
    let given = g.S.Source.left c.args.source.now in
    let numbers = c.in-Drill.numbers in
    let said = c.over_records.ensures in
    let ran = said.ran in
    rw c.in-Drill.is (λ fit no_source no_sink no_media.
    complete_records false 0 (λ ended. TakesTurns (depth_of numbers.writing) (Drills numbers ended ran.cut ran.text) old ended new) old c.over_records.result.0 new ran.cut ran.text [] [] _ _ _ _ _ _ (omega arith) fit.2.0 fit.2.1 (omega arith) no_source no_sink no_media said.counts (nothing_read c.over_records.result.0 (λ early. absurd (false≢true (said.early early).0))) (ran.holds.2 fit.1))

pub returns-in-Eaw-clause-complete : goal.returns-in-Eaw-clause-complete
returns-in-Eaw-clause-complete g c =
    let old = g.M.Media.view c.args.media in
    let new = g.M.Media.view c.run_commands.result.1 in
    let given = g.S.Source.left c.args.source.now in
    let said = c.run_commands.ensures in
    rw c.in-Eaw.is (λ fit no_source no_sink no_media.
    let input = said.ran.holds.0 in
    complete_of true (λ ended. ObeysAs c.in-Eaw.options.frames old input ended new said.ran.cut said.ran.text) false 0 old new said.ran.cut said.ran.text given _ _ _ _ _ _ _
    fit.0.1 fit.2.0 fit.2.1 (λ looks page is. absurd (false≢true looks)) (λ is. absurd (omega (arith, is.2))) no_source no_sink no_media c.run_commands.result.0 said.counts (said.input fit.0.0) (said.ran.holds.2 fit.1))

pub returns-in-Format-clause-ran : goal.returns-in-Format-clause-ran
returns-in-Format-clause-ran g c =
    let ran = c.run_format.ensures.ran in
    rw c.in-Format.is (record { cut = ran.cut; text = ran.text; wrote = ran.wrote; counts = ran.counts; holds = (g.S.Source.left c.args.source.now, (λ _. refl), ran.holds) })

pub returns-in-Eaw-clause-early : goal.returns-in-Eaw-clause-early
returns-in-Eaw-clause-early g c = λ either. c.run_commands.ensures.spares.early (is_early c.run_commands.result.0 either)

pub returns-in-Eaw-clause-silent : goal.returns-in-Eaw-clause-silent
returns-in-Eaw-clause-silent g c = λ silent. c.run_commands.ensures.spares.silent (silent_kind c.run_commands.result.0 silent)

pub returns-in-Eaw-clause-counts : goal.returns-in-Eaw-clause-counts
returns-in-Eaw-clause-counts g c = c.run_commands.ensures.counts

pub returns-in-Eaw-clause-steady : goal.returns-in-Eaw-clause-steady
returns-in-Eaw-clause-steady g c = c.run_commands.ensures.steady

pub returns-in-Eaw-clause-input : goal.returns-in-Eaw-clause-input
returns-in-Eaw-clause-input g c = rw c.in-Eaw.is c.run_commands.ensures.input

pub returns-in-Eaw-clause-formats : goal.returns-in-Eaw-clause-formats
returns-in-Eaw-clause-formats g c = rw c.in-Eaw.is (λ numbers is. absurd (let no : ⊥ = cc is in no))

pub returns-in-Eaw-clause-untold : goal.returns-in-Eaw-clause-untold
returns-in-Eaw-clause-untold g c = rw c.in-Eaw.is (λ is. absurd is)

pub returns-in-Eaw-clause-ran : goal.returns-in-Eaw-clause-ran
returns-in-Eaw-clause-ran g c = rw c.in-Eaw.is c.run_commands.ensures.ran

pub returns-in-Format-clause-early : goal.returns-in-Format-clause-early
returns-in-Format-clause-early g c = λ either. absurd ((format_late c.in-Format.numbers _ c.run_format.result.0 _ _ c.run_format.ensures.says) (is_early c.run_format.result.0 either))

pub returns-in-Format-clause-silent : goal.returns-in-Format-clause-silent
returns-in-Format-clause-silent g c = λ silent. ⊎_elim (λ early. absurd ((format_late c.in-Format.numbers _ c.run_format.result.0 _ _ c.run_format.ensures.says) early)) c.run_format.ensures.refused (silent_kind c.run_format.result.0 silent)

pub returns-in-Format-clause-counts : goal.returns-in-Format-clause-counts
returns-in-Format-clause-counts g c = counts_unread c.run_format.result.0 _ _ _ _ _ (format_late c.in-Format.numbers _ c.run_format.result.0 _ _ c.run_format.ensures.says) c.run_format.ensures.counts

pub returns-in-Format-clause-steady : goal.returns-in-Format-clause-steady
returns-in-Format-clause-steady g c = λ steady is. (format_late c.in-Format.numbers _ c.run_format.result.0 _ _ c.run_format.ensures.says) (read_fault_early c.run_format.result.0 is)

pub returns-in-Format-clause-input : goal.returns-in-Format-clause-input
returns-in-Format-clause-input g c = rw c.in-Format.is refl

pub returns-in-Format-clause-formats : goal.returns-in-Format-clause-formats
returns-in-Format-clause-formats g c = rw c.in-Format.is (λ numbers is. rw (let same : c.in-Format.numbers ≡ numbers = cc is in same) at c.run_format.ensures.says)

pub returns-in-Format-clause-untold : goal.returns-in-Format-clause-untold
returns-in-Format-clause-untold g c = rw c.in-Format.is (format_untold c.in-Format.numbers _ c.run_format.result.0 _ _ c.run_format.ensures.says)

pub run_callers-requires-clause-few : goal.run_callers-requires-clause-few
run_callers-requires-clause-few g c = λ κs lives. callers_few c.requires.asked.0 c.in-Callers.numbers (subst (AsksFor c.requires.asked.0) c.in-Callers.is c.requires.asked.1)

pub run_callers-requires-clause-readers : goal.run_callers-requires-clause-readers
run_callers-requires-clause-readers g c = λ κs lives. readers_few c.requires.asked.0 c.in-Callers.numbers (subst (AsksFor c.requires.asked.0) c.in-Callers.is c.requires.asked.1)

pub run_callers-requires-clause-depth : goal.run_callers-requires-clause-depth
run_callers-requires-clause-depth g c = λ κs lives. callers_depth c.requires.asked.0 c.in-Callers.numbers (subst (AsksFor c.requires.asked.0) c.in-Callers.is c.requires.asked.1)

pub returns-in-Make-clause-early : goal.returns-in-Make-clause-early
returns-in-Make-clause-early g c = λ either. absurd (c.run_told-in-Make.ensures.late (is_early c.run_told-in-Make.result.0 either))

pub returns-in-Make-clause-silent : goal.returns-in-Make-clause-silent
returns-in-Make-clause-silent g c = λ silent. ⊎_elim (λ early. absurd (c.run_told-in-Make.ensures.late early)) c.run_told-in-Make.ensures.refused (silent_kind c.run_told-in-Make.result.0 silent)

pub returns-in-Make-clause-counts : goal.returns-in-Make-clause-counts
returns-in-Make-clause-counts g c = c.run_told-in-Make.ensures.counts

pub returns-in-Make-clause-steady : goal.returns-in-Make-clause-steady
returns-in-Make-clause-steady g c = λ steady is. c.run_told-in-Make.ensures.late (read_fault_early c.run_told-in-Make.result.0 is)

pub returns-in-Make-clause-input : goal.returns-in-Make-clause-input
returns-in-Make-clause-input g c = rw c.in-Make.is c.run_told-in-Make.ensures.unread

pub returns-in-Make-clause-formats : goal.returns-in-Make-clause-formats
returns-in-Make-clause-formats g c = rw c.in-Make.is (λ numbers is. absurd (let no : ⊥ = cc is in no))

pub returns-in-Make-clause-untold : goal.returns-in-Make-clause-untold
returns-in-Make-clause-untold g c = rw c.in-Make.is c.run_told-in-Make.ensures.untold

pub returns-in-Make-clause-ran : goal.returns-in-Make-clause-ran
returns-in-Make-clause-ran g c =
    let ran = c.run_told-in-Make.ensures.ran in
    rw c.in-Make.is (record { cut = ran.cut; text = ran.text; wrote = ran.wrote; counts = ran.counts; holds = (g.S.Source.left c.args.source.now, (λ _. refl), ran.holds) })

pub returns-in-Make-clause-complete : goal.returns-in-Make-clause-complete
returns-in-Make-clause-complete g c =
    let old = g.M.Media.view c.args.media in
    let new = g.M.Media.view c.run_told-in-Make.result.1 in
    let said = c.run_told-in-Make.ensures in
    rw c.in-Make.is (λ fit no_source no_sink no_media.
    complete_make c.in-Make.name old new said.ran.cut said.ran.text _ _ _ _ _ _ fit.2.0 fit.2.1 no_source no_sink no_media c.run_told-in-Make.result.0 said.late said.counts (said.ran.holds fit.1))

pub returns-in-Purge-clause-early : goal.returns-in-Purge-clause-early
returns-in-Purge-clause-early g c = λ either. absurd (c.run_told-in-Purge.ensures.late (is_early c.run_told-in-Purge.result.0 either))

pub returns-in-Purge-clause-silent : goal.returns-in-Purge-clause-silent
returns-in-Purge-clause-silent g c = λ silent. ⊎_elim (λ early. absurd (c.run_told-in-Purge.ensures.late early)) c.run_told-in-Purge.ensures.refused (silent_kind c.run_told-in-Purge.result.0 silent)

pub returns-in-Purge-clause-counts : goal.returns-in-Purge-clause-counts
returns-in-Purge-clause-counts g c = c.run_told-in-Purge.ensures.counts

pub returns-in-Purge-clause-steady : goal.returns-in-Purge-clause-steady
returns-in-Purge-clause-steady g c = λ steady is. c.run_told-in-Purge.ensures.late (read_fault_early c.run_told-in-Purge.result.0 is)

pub returns-in-Purge-clause-input : goal.returns-in-Purge-clause-input
returns-in-Purge-clause-input g c = rw c.in-Purge.is c.run_told-in-Purge.ensures.unread

pub returns-in-Purge-clause-formats : goal.returns-in-Purge-clause-formats
returns-in-Purge-clause-formats g c = rw c.in-Purge.is (λ numbers is. absurd (let no : ⊥ = cc is in no))

pub returns-in-Purge-clause-untold : goal.returns-in-Purge-clause-untold
returns-in-Purge-clause-untold g c = rw c.in-Purge.is c.run_told-in-Purge.ensures.untold

pub returns-in-Purge-clause-ran : goal.returns-in-Purge-clause-ran
returns-in-Purge-clause-ran g c =
    let ran = c.run_told-in-Purge.ensures.ran in
    rw c.in-Purge.is (record { cut = ran.cut; text = ran.text; wrote = ran.wrote; counts = ran.counts; holds = (g.S.Source.left c.args.source.now, (λ _. refl), ran.holds) })

pub returns-in-Purge-clause-complete : goal.returns-in-Purge-clause-complete
returns-in-Purge-clause-complete g c =
    let old = g.M.Media.view c.args.media in
    let new = g.M.Media.view c.run_told-in-Purge.result.1 in
    let said = c.run_told-in-Purge.ensures in
    rw c.in-Purge.is (λ fit no_source no_sink no_media.
    complete_purge old new said.ran.cut said.ran.text _ _ _ _ _ _ fit.2.0 fit.2.1 no_source no_sink no_media c.run_told-in-Purge.result.0 said.late said.counts (said.ran.holds fit.1))

pub returns-in-Follow-clause-early : goal.returns-in-Follow-clause-early
returns-in-Follow-clause-early g c = λ either. c.run_follow.ensures.spares.early (is_early c.run_follow.result.0 either)

pub returns-in-Follow-clause-silent : goal.returns-in-Follow-clause-silent
returns-in-Follow-clause-silent g c = λ silent. c.run_follow.ensures.spares.silent (silent_kind c.run_follow.result.0 silent)

pub returns-in-Follow-clause-counts : goal.returns-in-Follow-clause-counts
returns-in-Follow-clause-counts g c = c.run_follow.ensures.counts

pub returns-in-Follow-clause-steady : goal.returns-in-Follow-clause-steady
returns-in-Follow-clause-steady g c = c.run_follow.ensures.steady

pub returns-in-Follow-clause-input : goal.returns-in-Follow-clause-input
returns-in-Follow-clause-input g c = rw c.in-Follow.is c.run_follow.ensures.input

pub returns-in-Follow-clause-formats : goal.returns-in-Follow-clause-formats
returns-in-Follow-clause-formats g c = rw c.in-Follow.is (λ numbers is. absurd (let no : ⊥ = cc is in no))

pub returns-in-Follow-clause-untold : goal.returns-in-Follow-clause-untold
returns-in-Follow-clause-untold g c = rw c.in-Follow.is (λ is. absurd is)

pub returns-in-Follow-clause-ran : goal.returns-in-Follow-clause-ran
returns-in-Follow-clause-ran g c = rw c.in-Follow.is c.run_follow.ensures.ran

pub returns-in-Follow-clause-complete : goal.returns-in-Follow-clause-complete
returns-in-Follow-clause-complete g c =
    let old = g.M.Media.view c.args.media in
    let new = g.M.Media.view c.run_follow.result.1 in
    let said = c.run_follow.ensures in
    rw c.in-Follow.is (λ fit no_source no_sink no_media.
    complete_follow old new said.ran.holds.0 said.ran.cut said.ran.text (g.S.Source.left c.args.source.now) _ _ _ _ _ _ _
    fit.0.1 fit.2.0 fit.2.1 no_source no_sink no_media c.run_follow.result.0 said.counts (said.input fit.0.0) (said.ran.holds.2 fit.1))

pub returns-in-Run-clause-usage : goal.returns-in-Run-clause-usage
returns-in-Run-clause-usage g c = λ is. absurd (c.run_lines.ensures.spares.no_usage is)

pub returns-in-Eaw-clause-usage : goal.returns-in-Eaw-clause-usage
returns-in-Eaw-clause-usage g c = λ is. absurd (c.run_commands.ensures.spares.no_usage is)

pub returns-in-Follow-clause-usage : goal.returns-in-Follow-clause-usage
returns-in-Follow-clause-usage g c = λ is. absurd (c.run_follow.ensures.spares.no_usage is)

pub returns-in-Dump-clause-usage : goal.returns-in-Dump-clause-usage
returns-in-Dump-clause-usage g c = λ is. absurd (c.run_told.ensures.no_usage is)

pub returns-in-Drill-clause-usage : goal.returns-in-Drill-clause-usage
returns-in-Drill-clause-usage g c = λ is. absurd (c.over_records.ensures.no_usage is)

pub returns-in-Make-clause-usage : goal.returns-in-Make-clause-usage
returns-in-Make-clause-usage g c = λ is. absurd (c.run_told-in-Make.ensures.no_usage is)

pub returns-in-Purge-clause-usage : goal.returns-in-Purge-clause-usage
returns-in-Purge-clause-usage g c = λ is. absurd (c.run_told-in-Purge.ensures.no_usage is)

pub returns-in-Format-clause-usage : goal.returns-in-Format-clause-usage
returns-in-Format-clause-usage g c = λ is. absurd (no_usage c.in-Format.numbers _ c.run_format.result.0 _ _ c.run_format.ensures.says is)
