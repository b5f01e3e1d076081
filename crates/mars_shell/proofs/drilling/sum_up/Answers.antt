use Rattle.std.proofs.Common.{ℕ, ◌<◌, List, [], ◌∷◌, refl, sym, subst, ◌∙◌, arith}
use Rattle.std.specs.List.{All}
use Rattle.std.proofs.lemmas.Result.{err_from_is_err_and}
use Rattle.history.specs.declared.call.Call.{Call}
use Rattle.history.specs.declared.call.Call.TheVariants.{Begin, Table}
use Rattle.history.specs.declared.call.TableCall.TheVariants.{Scan}
use Rattle.drill_gen.specs.Drill.{drill}
use Rattle.record_table.proofs.Sharing.{Laws}
use Rattle.history.specs.Key.{main_name}
use Rattle.caller_steps.specs.Core.{CoreView, Steps}
use Rattle.mars_core.specs.Held.{Held, core_of}
use Rattle.mars_shell.specs.Tally.{last_key}
use Rattle.mars_shell.specs.Made.{MadeAll, EndsEarly}
use Rattle.mars_shell.proofs.Making.{made_none, drill_inside, no_fault, stop_cause}
use Rattle.mars_shell.proofs.Drilled.{early_wider, begin_early, look_early, looked_early, summed, drilled_alive, drilled_none, drilled_free, drilled_shown}
use Rattle.mars_shell.proofs.drilling.sum_up.Given.{Over}
use Rattle.mars_shell.proofs.drilling.sum_up.Goals as goal

index_laws : (g : Over) → Laws g.I.KeyIndex.index
index_laws g = let K = g.met.I.KeyIndex in record { rises = K.rises; given = K.given; counts = K.counts; rests = K.rests; extends = K.extends }

pub returns-in_default-clause-early : goal.returns-in_default-clause-early
returns-in_default-clause-early g c = ([], made_none g.S.EawStore.tells _ _, refl)

pub make_turns-requires-clause-inside : goal.make_turns-requires-clause-inside
make_turns-requires-clause-inside g c =
    let numbers = c.args.numbers.now in
    let shape = (g.S.EawStore.view c.args.core.now.records.store).shape in
    let own = drill_inside numbers.seed numbers.count c.args.callers (omega (arith, c.requires.callers, shape.in_range.some_numbers)) in
    let here : All (λ turn. turn.0 < shape.numbers) (drill numbers.seed numbers.count c.args.callers) =
    subst (λ (n : ℕ). All (λ turn. turn.0 < n) (drill numbers.seed numbers.count c.args.callers)) c.requires.callers own in
    subst (λ (turns : List (ℕ × Call)). All (λ turn. turn.0 < shape.numbers) turns) (sym (c.as_slice.ensures ∙ c.in-Ok.ensures)) here

-- what a core shows
abbrev shown : (g : Over) → Held g.row.S.Denot → CoreView
shown g core = core_of g.S.EawStore.opens g.I.KeyIndex.index (g.S.EawStore.view core.records.store) core

pub returns-in_err-tally-clause-early : goal.returns-in_err-tally-clause-early
returns-in_err-tally-clause-early g c =
    let s = g.S.EawStore in
    let stop = c.in_err-tally.field-0.0 in
    let exit = err_from_is_err_and c.from_residual.result c.from_residual.ensures.1 in
    rw (exit.1, exit.2) (early_wider s.tells (shown g c.args.core.now) (shown g c.make_turns.new.core) (drill c.args.numbers.now.seed c.args.numbers.now.count c.args.callers)
    ((0, Begin) ∷ (0, Table (Scan main_name 0 last_key)) ∷ []) stop
    (subst (λ (turns : List (ℕ × Call)). EndsEarly s.tells (shown g c.args.core.now) turns stop (shown g c.make_turns.new.core)) (c.as_slice.ensures ∙ c.in-Ok.ensures) c.in_err-tally.ensures.early))

pub returns-in_err-tally-clause-cause : goal.returns-in_err-tally-clause-cause
returns-in_err-tally-clause-cause g c =
    let exit = err_from_is_err_and c.from_residual.result c.from_residual.ensures.1 in
    rw (exit.1, exit.2) c.in_err-tally.ensures.cause

pub returns-in_err-going_on-clause-early : goal.returns-in_err-going_on-clause-early
returns-in_err-going_on-clause-early g c =
    let s = g.S.EawStore in
    let drawn = drill c.args.numbers.now.seed c.args.numbers.now.count c.args.callers in
    let all = subst (λ (turns : List (ℕ × Call)). MadeAll s.tells (shown g c.args.core.now) turns c.in_ok-tally.tally (shown g c.make_turns.new.core)) (c.as_slice.ensures ∙ c.in-Ok.ensures) c.in_ok-tally.ensures.all in
    let exit = err_from_is_err_and c.from_residual-in_err-going_on.result c.from_residual-in_err-going_on.ensures.1 in
    rw (exit.1, exit.2) (begin_early s.tells (shown g c.args.core.now) (shown g c.make_turns.new.core) drawn c.in_ok-tally.tally all (shown g c.step-begun.new.self) c.step-begun.result
    c.step-begun.ensures.steps c.in_err-going_on.field-0.0 c.in_err-going_on.ensures)

pub returns-in_err-going_on-clause-cause : goal.returns-in_err-going_on-clause-cause
returns-in_err-going_on-clause-cause g c =
    let exit = err_from_is_err_and c.from_residual-in_err-going_on.result c.from_residual-in_err-going_on.ensures.1 in
    rw (exit.1, exit.2) (stop_cause g.S.EawStore.tells 0 Begin (shown g c.make_turns.new.core) (shown g c.step-begun.new.self) c.step-begun.result c.step-begun.ensures.steps _ c.in_ok-tally.ensures.cause
    c.in_err-going_on.field-0.0 c.in_err-going_on.ensures)

pub returns-in_err-going_on-2-clause-early : goal.returns-in_err-going_on-2-clause-early
returns-in_err-going_on-2-clause-early g c =
    let s = g.S.EawStore in
    let drawn = drill c.args.numbers.now.seed c.args.numbers.now.count c.args.callers in
    let all = subst (λ (turns : List (ℕ × Call)). MadeAll s.tells (shown g c.args.core.now) turns c.in_ok-tally.tally (shown g c.make_turns.new.core)) (c.as_slice.ensures ∙ c.in-Ok.ensures) c.in_ok-tally.ensures.all in
    let two = subst (λ (call : Call). Steps s.tells 0 call (shown g c.step-begun.new.self) (shown g c.step-look.new.self) c.step-look.result) c.whole_scan-scan.ensures c.step-look.ensures.steps in
    let exit = err_from_is_err_and c.from_residual-in_err-going_on-2.result c.from_residual-in_err-going_on-2.ensures.1 in
    rw (exit.1, exit.2) (look_early s.tells (shown g c.args.core.now) (shown g c.make_turns.new.core) drawn c.in_ok-tally.tally all (shown g c.step-begun.new.self) c.step-begun.result
    c.step-begun.ensures.steps c.in_ok-going_on.ensures (shown g c.step-look.new.self) c.step-look.result two c.in_err-going_on-2.field-0.0 c.in_err-going_on-2.ensures)

pub returns-in_err-going_on-2-clause-cause : goal.returns-in_err-going_on-2-clause-cause
returns-in_err-going_on-2-clause-cause g c =
    let begun = c.step-begun.ensures.steps.kept (no_fault c.step-begun.result c.in_ok-going_on.ensures) ∙ c.in_ok-tally.ensures.cause in
    let exit = err_from_is_err_and c.from_residual-in_err-going_on-2.result c.from_residual-in_err-going_on-2.ensures.1 in
    rw (exit.1, exit.2) (stop_cause g.S.EawStore.tells 0 _ (shown g c.step-begun.new.self) (shown g c.step-look.new.self) c.step-look.result c.step-look.ensures.steps _ begun
    c.in_err-going_on-2.field-0.0 c.in_err-going_on-2.ensures)

pub returns-in-Ok-summary_text-clause-summed : goal.returns-in-Ok-summary_text-clause-summed
returns-in-Ok-summary_text-clause-summed g c =
    let s = g.S.EawStore in
    let numbers = c.args.numbers.now in
    let drawn = drill numbers.seed numbers.count c.args.callers in
    let mid = shown g c.make_turns.new.core in
    let all = subst (λ (turns : List (ℕ × Call)). MadeAll s.tells (shown g c.args.core.now) turns c.in_ok-tally.tally (shown g c.make_turns.new.core)) (c.as_slice.ensures ∙ c.in-Ok.ensures) c.in_ok-tally.ensures.all in
    let two = subst (λ (call : Call). Steps s.tells 0 call (shown g c.step-begun.new.self) (shown g c.step-look.new.self) c.step-look.result) c.whole_scan-scan.ensures c.step-look.ensures.steps in
    summed s.tells (shown g c.args.core.now) mid drawn c.in_ok-tally.tally all (shown g c.step-begun.new.self) c.step-begun.result c.step-begun.ensures.steps c.in_ok-going_on.ensures
    (shown g c.step-look.new.self) c.step-look.result two c.in_ok-going_on-2.ensures g.I.KeyIndex.index (index_laws g)
    (λ told. drilled_shown s.tells (shown g c.args.core.now) mid numbers.seed numbers.count c.args.callers c.in_ok-tally.tally all c.requires.ready told (c.requires.shows told))
    (drilled_alive s.tells (shown g c.args.core.now) mid numbers.seed numbers.count c.args.callers c.in_ok-tally.tally all c.requires.ready)
    (drilled_none s.tells (shown g c.args.core.now) mid numbers.seed numbers.count c.args.callers c.in_ok-tally.tally all c.requires.ready)
    (drilled_free s.tells (shown g c.args.core.now) mid numbers.seed numbers.count c.args.callers c.in_ok-tally.tally all c.requires.ready)
    numbers c.in-Ok-summary_text.text.items c.in-Ok-summary_text.ensures

pub returns-in-Ok-summary_text-clause-cause : goal.returns-in-Ok-summary_text-clause-cause
returns-in-Ok-summary_text-clause-cause g c =
    c.step-look.ensures.steps.kept (no_fault c.step-look.result c.in_ok-going_on-2.ensures) ∙ c.step-begun.ensures.steps.kept (no_fault c.step-begun.result c.in_ok-going_on.ensures) ∙ c.in_ok-tally.ensures.cause

-- there is no memory for the text
pub returns-clause-early : goal.returns-clause-early
returns-clause-early g c =
    let s = g.S.EawStore in
    let drawn = drill c.args.numbers.now.seed c.args.numbers.now.count c.args.callers in
    let all = subst (λ (turns : List (ℕ × Call)). MadeAll s.tells (shown g c.args.core.now) turns c.in_ok-tally.tally (shown g c.make_turns.new.core)) (c.as_slice.ensures ∙ c.in-Ok.ensures) c.in_ok-tally.ensures.all in
    let two = subst (λ (call : Call). Steps s.tells 0 call (shown g c.step-begun.new.self) (shown g c.step-look.new.self) c.step-look.result) c.whole_scan-scan.ensures c.step-look.ensures.steps in
    looked_early s.tells (shown g c.args.core.now) (shown g c.make_turns.new.core) drawn c.in_ok-tally.tally all (shown g c.step-begun.new.self) c.step-begun.result c.step-begun.ensures.steps c.in_ok-going_on.ensures
    (shown g c.step-look.new.self) c.step-look.result two c.in_ok-going_on-2.ensures

pub returns-clause-cause : goal.returns-clause-cause
returns-clause-cause g c =
    c.step-look.ensures.steps.kept (no_fault c.step-look.result c.in_ok-going_on-2.ensures) ∙ c.step-begun.ensures.steps.kept (no_fault c.step-begun.result c.in_ok-going_on.ensures) ∙ c.in_ok-tally.ensures.cause
