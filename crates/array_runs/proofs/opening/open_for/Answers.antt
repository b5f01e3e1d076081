use Rattle.std.proofs.Common.{true, inl, refl, sym, subst, ap, ◌∙◌, arith}
use Rattle.std.proofs.lemmas.Result.{err_from_is_err_and}
use Rattle.array_runs.specs.Opening.{IsUnopened}
use Rattle.array_runs.specs.Statuses.{IsEarly, IsRefusal}
use Rattle.array_runs.proofs.Endings.{counts_unwritten}
use Rattle.array_runs.proofs.Opened.{array, left_alone, opened_within}
use Rattle.array_runs.proofs.Unopened.{idle_same, unopened_as}
use Rattle.array_runs.proofs.opening.open_for.Goals as goal

pub returns-in-Err-clause-outcome : goal.returns-in-Err-clause-outcome
returns-in-Err-clause-outcome g c = λ told. inl (idle_same g.M.Media.tells told (g.M.Media.view c.args.media) (g.met.M.Media.only_now c.args.media) _ _ tt)

pub returns-in-Err-clause-usage : goal.returns-in-Err-clause-usage
returns-in-Err-clause-usage g c = λ is. absurd (subst IsRefusal (sym is) tt)

pub returns-in-Err-clause-steady : goal.returns-in-Err-clause-steady
returns-in-Err-clause-steady g c = λ steady is. subst IsEarly (sym is) tt

pub returns-in-Err-clause-counts : goal.returns-in-Err-clause-counts
returns-in-Err-clause-counts g c = λ sink. (refl, refl, refl)

pub returns-in_err-input-clause-outcome : goal.returns-in_err-input-clause-outcome
returns-in_err-input-clause-outcome g c = λ told.
    let old = g.M.Media.view c.args.media in
    let ended = c.in_err-input.field-0.0 in
    let exit = err_from_is_err_and c.from_residual.result c.from_residual.ensures.1 in
    rw (exit.1, exit.2) (unopened_as (λ none. ⊥) true c.args.callers old ended.0
    (g.M.Media.view ended.1) c.in_err-input.ensures.kind (c.in_err-input.ensures.unopened told))

pub returns-in_err-input-clause-usage : goal.returns-in_err-input-clause-usage
returns-in_err-input-clause-usage g c =
    let exit = err_from_is_err_and c.from_residual.result c.from_residual.ensures.1 in
    rw (exit.1, exit.2) (λ is. absurd (subst IsUnopened is c.in_err-input.ensures.kind))

pub returns-in_err-input-clause-early : goal.returns-in_err-input-clause-early
returns-in_err-input-clause-early g c =
    let exit = err_from_is_err_and c.from_residual.result c.from_residual.ensures.1 in
    rw (exit.1, exit.2) c.in_err-input.ensures.early

pub returns-in_err-input-clause-steady : goal.returns-in_err-input-clause-steady
returns-in_err-input-clause-steady g c = λ steady.
    let exit = err_from_is_err_and c.from_residual.result c.from_residual.ensures.1 in
    rw (exit.1, exit.2) (c.in_err-input.ensures.steady steady)

pub returns-in_err-input-clause-input : goal.returns-in_err-input-clause-input
returns-in_err-input-clause-input g c =
    let exit = err_from_is_err_and c.from_residual.result c.from_residual.ensures.1 in
    rw (exit.1, exit.2) c.in_err-input.ensures.input

pub returns-in_err-input-clause-counts : goal.returns-in_err-input-clause-counts
returns-in_err-input-clause-counts g c =
    let exit = err_from_is_err_and c.from_residual.result c.from_residual.ensures.1 in
    rw (exit.1, exit.2) (λ sink. counts_unwritten c.in_err-input.field-0.0.0 _ _ sink _ _ c.in_err-input.ensures.kind c.in_err-input.ensures.counts)

pub returns-then-callers-shape-clause-outcome : goal.returns-then-callers-shape-clause-outcome
returns-then-callers-shape-clause-outcome g c = λ told.
    let media = g.M.Media in
    let old = media.view c.args.media in
    let attached = c.in_ok-input.ensures.attached in
    left_alone media.tells told old (g.met.M.Media.only_now c.args.media) _ attached c.in_ok-input.ensures.keeps _ _ (media.view c.into_media.result) c.into_media.ensures.behind _ refl
    (_, array media.tells told old (g.met.M.Media.only_now c.args.media) _ attached c.in_ok-input.ensures.keeps, omega (arith, c.if-callers-shape.true, ap (λ s. s.numbers) c.shape.ensures))

pub returns-then-callers-shape-clause-usage : goal.returns-then-callers-shape-clause-usage
returns-then-callers-shape-clause-usage g c = λ is. omega (arith, c.if-callers-shape.true)

pub returns-then-callers-shape-clause-steady : goal.returns-then-callers-shape-clause-steady
returns-then-callers-shape-clause-steady g c = λ steady is. subst IsEarly (sym is) tt

pub returns-then-callers-shape-clause-counts : goal.returns-then-callers-shape-clause-counts
returns-then-callers-shape-clause-counts g c = λ sink. (c.in_ok-input.ensures.kept, refl, c.into_media.ensures.behind.faults ∙ c.in_ok-input.ensures.attached.faults)

pub returns-clause-enough : goal.returns-clause-enough
returns-clause-enough g c = omega (arith, c.if-callers-shape.false, ap (λ s. s.numbers) c.shape.ensures)

pub returns-in-Err-clause-within : goal.returns-in-Err-clause-within
returns-in-Err-clause-within g c = λ told shape says none. omega arith

pub returns-in_err-input-clause-within : goal.returns-in_err-input-clause-within
returns-in_err-input-clause-within g c =
    let exit = err_from_is_err_and c.from_residual.result c.from_residual.ensures.1 in
    rw (exit.1, exit.2) c.in_err-input.ensures.within

pub returns-then-callers-shape-clause-within : goal.returns-then-callers-shape-clause-within
returns-then-callers-shape-clause-within g c =
    opened_within g.M.Media.tells (g.M.Media.view c.args.media) _ c.in_ok-input.ensures.attached (g.M.Media.view c.into_media.result) c.into_media.ensures.behind.moment
