use Rattle.std.proofs.Common.{◌∙◌, ⊎_elim, inl, inr, ap, refl, ◌++◌}
use Rattle.history.specs.declared.call.Call.TheVariants.{Control}
use Rattle.history.specs.declared.call.Control.TheVariants.{Commit, Abort}
use Rattle.transactions.specs.Told.{told_done, told_commit}
use Rattle.transactions.specs.declared.work.Stop.TheVariants.{Refused}
use Rattle.transactions.proofs.Doubting.{doubts}
use Rattle.transactions.proofs.Handing.{handed_on, none_handed_on}
use Rattle.transactions.proofs.Made.{made_by, grown_by, grown_after, others_stay}
use Rattle.transactions.proofs.Going.{went_one, went_on, refuses_later, refuses_before, core_later, core_before}
use Rattle.transactions.proofs.Trying.{tries_one, tries_none, tries_still, tries_on}
use Rattle.transactions.proofs.making.transaction.Goals as goal

-- what is refused as it begins was one try; what is done within it adds none, and nor does its end
pub returns-in_err-begin-clause-tries : goal.returns-in_err-begin-clause-tries
returns-in_err-begin-clause-tries g c told =
    let core = g.C.Core in
    tries_one c.args.caller (core.view c.args.core.now) (core.view c.begin.new.core) (told_done c.begin.result) (c.begin.ensures.steps.step told)

pub returns-in-Ok-commit-clause-tries : goal.returns-in-Ok-commit-clause-tries
returns-in-Ok-commit-clause-tries g c told =
    let core = g.C.Core in
    let first = c.begin.ensures.stays told in
    let second = c.make.ensures.stays told in
    let old = core.view c.args.core.now in
    let begun = core.view c.begin.new.core in
    let mid = core.view c.make.new.core in
    let new = core.view c.commit.new.core in
    tries_on 1 0 c.args.caller old mid new (second.goes_on.limits ∙ first.goes_on.limits)
    (tries_on 1 0 c.args.caller old begun mid first.goes_on.limits (tries_one c.args.caller old begun (told_done c.begin.result) (c.begin.ensures.steps.step told)) (tries_none c.args.caller begun mid (c.make.ensures.within told)))
    (tries_still c.args.caller mid new (Control Commit) (told_commit c.commit.result) refl (c.commit.ensures.steps.step told))

pub returns-in-Err-commit-clause-tries : goal.returns-in-Err-commit-clause-tries
returns-in-Err-commit-clause-tries g c told =
    let core = g.C.Core in
    let first = c.begin.ensures.stays told in
    let second = c.make.ensures.stays told in
    let old = core.view c.args.core.now in
    let begun = core.view c.begin.new.core in
    let mid = core.view c.make.new.core in
    let refused = core.view c.commit.new.core in
    let new = core.view c.abort.new.core in
    tries_on 1 0 c.args.caller old refused new ((c.commit.ensures.goes_on told).limits ∙ second.goes_on.limits ∙ first.goes_on.limits)
    (tries_on 1 0 c.args.caller old mid refused (second.goes_on.limits ∙ first.goes_on.limits)
    (tries_on 1 0 c.args.caller old begun mid first.goes_on.limits (tries_one c.args.caller old begun (told_done c.begin.result) (c.begin.ensures.steps.step told)) (tries_none c.args.caller begun mid (c.make.ensures.within told)))
    (tries_still c.args.caller mid refused (Control Commit) (told_commit c.commit.result) refl (c.commit.ensures.steps.step told)))
    (tries_still c.args.caller refused new (Control Abort) (told_done c.abort.result) refl (c.abort.ensures.steps.step told))

pub returns-in-Err-clause-tries : goal.returns-in-Err-clause-tries
returns-in-Err-clause-tries g c told =
    let core = g.C.Core in
    let first = c.begin.ensures.stays told in
    let second = c.make.ensures.stays told in
    let old = core.view c.args.core.now in
    let begun = core.view c.begin.new.core in
    let mid = core.view c.make.new.core in
    let new = core.view c.abort-in-Err.new.core in
    tries_on 1 0 c.args.caller old mid new (second.goes_on.limits ∙ first.goes_on.limits)
    (tries_on 1 0 c.args.caller old begun mid first.goes_on.limits (tries_one c.args.caller old begun (told_done c.begin.result) (c.begin.ensures.steps.step told)) (tries_none c.args.caller begun mid (c.make.ensures.within told)))
    (tries_still c.args.caller mid new (Control Abort) (told_done c.abort-in-Err.result) refl (c.abort-in-Err.ensures.steps.step told))

pub returns-in-Err-commit-clause-doubt : goal.returns-in-Err-commit-clause-doubt
returns-in-Err-commit-clause-doubt g c told =
    let core = g.C.Core in
    let first = c.begin.ensures.stays told in
    let second = c.make.ensures.stays told in
    let last = c.abort.ensures.stays told in
    ⊎_elim (λ same. inl (last.doubt ∙ same ∙ second.doubt ∙ first.doubt))
    (λ doubted. inr (
      ap Refused doubted.0,
      doubts (λ answer. g.W.Work.does c.args.work.now answer) c.args.caller c.in-Ok.answer (core.view c.args.core.now) (core.view c.begin.new.core) (core.view c.make.new.core) (core.view c.abort.new.core)
          first.goes_on.base first.history second.history (c.in-Ok.ensures.done told) (last.doubt ∙ doubted.1),
    ))
    (c.in-Err-commit.ensures.doubt told)

pub returns-in-Ok-commit-clause-went : goal.returns-in-Ok-commit-clause-went
returns-in-Ok-commit-clause-went g c told =
    let core = g.C.Core in
    let first = c.begin.ensures.stays told in
    let second = c.make.ensures.stays told in
    let begun = core.view c.begin.new.core in
    let mid = core.view c.make.new.core in
    let new = core.view c.commit.new.core in
    went_on c.args.caller (core.view c.args.core.now) mid new (second.goes_on.limits ∙ first.goes_on.limits)
    (went_on c.args.caller (core.view c.args.core.now) begun mid first.goes_on.limits first.went second.went)
    (went_one c.args.caller mid new (Control Commit) (told_commit c.commit.result) (c.commit.ensures.steps.step told))

pub returns-in-Err-commit-clause-went : goal.returns-in-Err-commit-clause-went
returns-in-Err-commit-clause-went g c told =
    let core = g.C.Core in
    let first = c.begin.ensures.stays told in
    let second = c.make.ensures.stays told in
    let last = c.abort.ensures.stays told in
    let old = core.view c.args.core.now in
    let begun = core.view c.begin.new.core in
    let mid = core.view c.make.new.core in
    let refused = core.view c.commit.new.core in
    let new = core.view c.abort.new.core in
    went_on c.args.caller old refused new ((c.commit.ensures.goes_on told).limits ∙ second.goes_on.limits ∙ first.goes_on.limits)
    (went_on c.args.caller old mid refused (second.goes_on.limits ∙ first.goes_on.limits)
    (went_on c.args.caller old begun mid first.goes_on.limits first.went second.went)
    (went_one c.args.caller mid refused (Control Commit) (told_commit c.commit.result) (c.commit.ensures.steps.step told)))
    last.went

pub returns-in-Err-commit-clause-of_core : goal.returns-in-Err-commit-clause-of_core
returns-in-Err-commit-clause-of_core g c told =
    let core = g.C.Core in
    let first = c.begin.ensures.stays told in
    let second = c.make.ensures.stays told in
    let last = c.abort.ensures.stays told in
    let old = core.view c.args.core.now in
    let begun = core.view c.begin.new.core in
    let mid = core.view c.make.new.core in
    let refused = core.view c.commit.new.core in
    let new = core.view c.abort.new.core in
    refuses_before c.args.caller old refused new c.in-Err-commit.refusal ((c.commit.ensures.goes_on told).limits ∙ second.goes_on.limits ∙ first.goes_on.limits)
    (refuses_later c.args.caller old mid refused c.in-Err-commit.refusal (second.goes_on.limits ∙ first.goes_on.limits)
    (went_on c.args.caller old begun mid first.goes_on.limits first.went second.went)
    (c.in-Err-commit.ensures.refused told))
    last.went

pub returns-in-Err-clause-went : goal.returns-in-Err-clause-went
returns-in-Err-clause-went g c told =
    let core = g.C.Core in
    let first = c.begin.ensures.stays told in
    let second = c.make.ensures.stays told in
    let last = c.abort-in-Err.ensures.stays told in
    let old = core.view c.args.core.now in
    let begun = core.view c.begin.new.core in
    let mid = core.view c.make.new.core in
    let new = core.view c.abort-in-Err.new.core in
    went_on c.args.caller old mid new (second.goes_on.limits ∙ first.goes_on.limits) (went_on c.args.caller old begun mid first.goes_on.limits first.went second.went) last.went

pub returns-in-Err-clause-of_core : goal.returns-in-Err-clause-of_core
returns-in-Err-clause-of_core g c told =
    let core = g.C.Core in
    let first = c.begin.ensures.stays told in
    let second = c.make.ensures.stays told in
    let last = c.abort-in-Err.ensures.stays told in
    let old = core.view c.args.core.now in
    let begun = core.view c.begin.new.core in
    let mid = core.view c.make.new.core in
    let new = core.view c.abort-in-Err.new.core in
    core_before c.args.caller old mid new c.in-Err.stop (second.goes_on.limits ∙ first.goes_on.limits)
    (core_later c.args.caller old begun mid c.in-Err.stop first.goes_on.limits first.went (c.in-Err.ensures.of_core told))
    last.went

-- what is refused as it begins leaves all as it was
pub returns-in_err-begin-clause-goes_on : goal.returns-in_err-begin-clause-goes_on
returns-in_err-begin-clause-goes_on g c told = (c.begin.ensures.stays told).goes_on

pub returns-in_err-begin-clause-went : goal.returns-in_err-begin-clause-went
returns-in_err-begin-clause-went g c told = (c.begin.ensures.stays told).went

pub returns-in_err-begin-clause-others : goal.returns-in_err-begin-clause-others
returns-in_err-begin-clause-others g c told = (c.begin.ensures.stays told).others

pub returns-in_err-begin-clause-offers : goal.returns-in_err-begin-clause-offers
returns-in_err-begin-clause-offers g c told = (c.begin.ensures.stays told).offers

pub returns-in_err-begin-clause-grows : goal.returns-in_err-begin-clause-grows
returns-in_err-begin-clause-grows g c told = let s = c.begin.ensures.stays told in inl (λ i. s.history i ++ s.doubt i)

-- nor does the work leave anything if it is given up
pub returns-in-Err-clause-goes_on : goal.returns-in-Err-clause-goes_on
returns-in-Err-clause-goes_on g c told =
    let first = c.begin.ensures.stays told in
    let second = c.make.ensures.stays told in
    let last = c.abort-in-Err.ensures.stays told in
    c.prefix_law.ensures.on c.args.core.now c.make.new.core c.abort-in-Err.new.core
    (c.prefix_law.ensures.on c.args.core.now c.begin.new.core c.make.new.core first.goes_on second.goes_on) last.goes_on

pub returns-in-Err-clause-refused : goal.returns-in-Err-clause-refused
returns-in-Err-clause-refused g c told =
    let first = c.begin.ensures.stays told in
    let second = c.make.ensures.stays told in
    let last = c.abort-in-Err.ensures.stays told in
    last.history ∙ second.history ∙ first.history

pub returns-in-Err-clause-others : goal.returns-in-Err-clause-others
returns-in-Err-clause-others g c told =
    let first = c.begin.ensures.stays told in
    let second = c.make.ensures.stays told in
    let last = c.abort-in-Err.ensures.stays told in
    λ other apart. last.others other apart ∙ second.others other apart ∙ first.others other apart

pub returns-in-Err-clause-offers : goal.returns-in-Err-clause-offers
returns-in-Err-clause-offers g c told =
    let first = c.begin.ensures.stays told in
    let second = c.make.ensures.stays told in
    let last = c.abort-in-Err.ensures.stays told in
    last.offers ∙ second.offers ∙ first.offers

pub returns-in-Err-clause-doubt : goal.returns-in-Err-clause-doubt
returns-in-Err-clause-doubt g c told =
    let first = c.begin.ensures.stays told in
    let second = c.make.ensures.stays told in
    let last = c.abort-in-Err.ensures.stays told in
    inl (last.doubt ∙ second.doubt ∙ first.doubt)

pub returns-in-Err-clause-grows : goal.returns-in-Err-clause-grows
returns-in-Err-clause-grows g c told =
    let first = c.begin.ensures.stays told in
    let second = c.make.ensures.stays told in
    let last = c.abort-in-Err.ensures.stays told in
    let history = last.history ∙ second.history ∙ first.history in
    let doubt = last.doubt ∙ second.doubt ∙ first.doubt in
    inl (λ i. history i ++ doubt i)

-- a commit that is refused, and one that is made
pub returns-in-Err-commit-clause-goes_on : goal.returns-in-Err-commit-clause-goes_on
returns-in-Err-commit-clause-goes_on g c told =
    let first = c.begin.ensures.stays told in
    let second = c.make.ensures.stays told in
    let last = c.abort.ensures.stays told in
    c.prefix_law.ensures.on c.args.core.now c.commit.new.core c.abort.new.core
    (c.prefix_law.ensures.on c.args.core.now c.make.new.core c.commit.new.core
    (c.prefix_law.ensures.on c.args.core.now c.begin.new.core c.make.new.core first.goes_on second.goes_on) (c.commit.ensures.goes_on told)) last.goes_on

pub returns-in-Err-commit-clause-refused : goal.returns-in-Err-commit-clause-refused
returns-in-Err-commit-clause-refused g c told =
    let first = c.begin.ensures.stays told in
    let second = c.make.ensures.stays told in
    let last = c.abort.ensures.stays told in
    last.history ∙ c.in-Err-commit.ensures.err told ∙ second.history ∙ first.history

pub returns-in-Err-commit-clause-offers : goal.returns-in-Err-commit-clause-offers
returns-in-Err-commit-clause-offers g c told =
    let first = c.begin.ensures.stays told in
    let second = c.make.ensures.stays told in
    let last = c.abort.ensures.stays told in
    last.offers ∙ c.commit.ensures.offers told ∙ second.offers ∙ first.offers

pub returns-in-Ok-commit-clause-goes_on : goal.returns-in-Ok-commit-clause-goes_on
returns-in-Ok-commit-clause-goes_on g c told =
    let first = c.begin.ensures.stays told in
    let second = c.make.ensures.stays told in
    c.prefix_law.ensures.on c.args.core.now c.make.new.core c.commit.new.core
    (c.prefix_law.ensures.on c.args.core.now c.begin.new.core c.make.new.core first.goes_on second.goes_on) (c.commit.ensures.goes_on told)

pub returns-in-Ok-commit-clause-offers : goal.returns-in-Ok-commit-clause-offers
returns-in-Ok-commit-clause-offers g c told =
    let first = c.begin.ensures.stays told in
    let second = c.make.ensures.stays told in
    c.commit.ensures.offers told ∙ second.offers ∙ first.offers

-- what is refused as it begins is the core's refusal
pub returns-in_err-begin-clause-limits : goal.returns-in_err-begin-clause-limits
returns-in_err-begin-clause-limits g c = c.begin.ensures.steps.limits

pub returns-in_err-begin-clause-made : goal.returns-in_err-begin-clause-made
returns-in_err-begin-clause-made g c told = none_handed_on c.from_residual.result (Refused c.in_err-begin.field-0.0) c.from_residual.ensures _

pub returns-in_err-begin-clause-refused : goal.returns-in_err-begin-clause-refused
returns-in_err-begin-clause-refused g c told = handed_on c.from_residual.result (Refused c.in_err-begin.field-0.0) c.from_residual.ensures _ (c.begin.ensures.stays told).history

pub returns-in_err-begin-clause-cause : goal.returns-in_err-begin-clause-cause
returns-in_err-begin-clause-cause g c told = handed_on c.from_residual.result (Refused c.in_err-begin.field-0.0) c.from_residual.ensures _ tt

pub returns-in_err-begin-clause-of_core : goal.returns-in_err-begin-clause-of_core
returns-in_err-begin-clause-of_core g c told = handed_on c.from_residual.result (Refused c.in_err-begin.field-0.0) c.from_residual.ensures _ (c.in_err-begin.ensures.refused told)

pub returns-in_err-begin-clause-ended : goal.returns-in_err-begin-clause-ended
returns-in_err-begin-clause-ended g c told none alive = c.in_err-begin.ensures.err told ∙ none

pub returns-in_err-begin-clause-certain : goal.returns-in_err-begin-clause-certain
returns-in_err-begin-clause-certain g c told = none_handed_on c.from_residual.result (Refused c.in_err-begin.field-0.0) c.from_residual.ensures _

pub returns-in_err-begin-clause-doubt : goal.returns-in_err-begin-clause-doubt
returns-in_err-begin-clause-doubt g c told = handed_on c.from_residual.result (Refused c.in_err-begin.field-0.0) c.from_residual.ensures _ (inl (c.begin.ensures.stays told).doubt)

-- what is committed does the work
pub returns-in-Ok-commit-clause-limits : goal.returns-in-Ok-commit-clause-limits
returns-in-Ok-commit-clause-limits g c = c.commit.ensures.steps.limits ∙ c.make.ensures.limits ∙ c.begin.ensures.steps.limits

pub returns-in-Ok-commit-clause-made : goal.returns-in-Ok-commit-clause-made
returns-in-Ok-commit-clause-made g c told =
    let first = c.begin.ensures.stays told in
    let second = c.make.ensures.stays told in
    made_by (λ answer. g.W.Work.does c.args.work.now answer) c.args.caller c.in-Ok.answer (g.C.Core.view c.args.core.now) (g.C.Core.view c.begin.new.core) (g.C.Core.view c.make.new.core) first.goes_on.base first.history second.history (c.in-Ok.ensures.done told) (g.C.Core.view c.commit.new.core) (c.in-Ok-commit.ensures.ok told).history

pub returns-in-Ok-commit-clause-refused : goal.returns-in-Ok-commit-clause-refused
returns-in-Ok-commit-clause-refused g c told = tt

pub returns-in-Ok-commit-clause-cause : goal.returns-in-Ok-commit-clause-cause
returns-in-Ok-commit-clause-cause g c told = tt

pub returns-in-Ok-commit-clause-of_core : goal.returns-in-Ok-commit-clause-of_core
returns-in-Ok-commit-clause-of_core g c told = tt

pub returns-in-Ok-commit-clause-doubt : goal.returns-in-Ok-commit-clause-doubt
returns-in-Ok-commit-clause-doubt g c told = tt

pub returns-in-Ok-commit-clause-ended : goal.returns-in-Ok-commit-clause-ended
returns-in-Ok-commit-clause-ended g c told none alive = (c.in-Ok-commit.ensures.ok told).ended

pub returns-in-Ok-commit-clause-others : goal.returns-in-Ok-commit-clause-others
returns-in-Ok-commit-clause-others g c told other apart =
    let first = c.begin.ensures.stays told in
    let second = c.make.ensures.stays told in
    others_stay _ c.args.caller (g.C.Core.view c.make.new.core) (g.C.Core.view c.commit.new.core) _ c.commit.ensures.steps.moves other apart ∙ second.others other apart ∙ first.others other apart

pub returns-in-Ok-commit-clause-certain : goal.returns-in-Ok-commit-clause-certain
returns-in-Ok-commit-clause-certain g c told =
    let first = c.begin.ensures.stays told in
    let second = c.make.ensures.stays told in
    (c.in-Ok-commit.ensures.ok told).doubt ∙ second.doubt ∙ first.doubt

pub returns-in-Ok-commit-clause-grows : goal.returns-in-Ok-commit-clause-grows
returns-in-Ok-commit-clause-grows g c told =
    let first = c.begin.ensures.stays told in
    let second = c.make.ensures.stays told in
    grown_by (λ answer. g.W.Work.does c.args.work.now answer) c.args.caller c.in-Ok.answer (g.C.Core.view c.args.core.now) (g.C.Core.view c.begin.new.core) (g.C.Core.view c.make.new.core) first.goes_on.base first.history second.history (c.in-Ok.ensures.done told) (g.C.Core.view c.commit.new.core) (second.doubt ∙ first.doubt) (c.commit.ensures.grows told)

pub returns-in-Err-commit-clause-limits : goal.returns-in-Err-commit-clause-limits
returns-in-Err-commit-clause-limits g c = c.abort.ensures.steps.limits ∙ c.commit.ensures.steps.limits ∙ c.make.ensures.limits ∙ c.begin.ensures.steps.limits

pub returns-in-Err-commit-clause-made : goal.returns-in-Err-commit-clause-made
returns-in-Err-commit-clause-made g c told = tt

pub returns-in-Err-commit-clause-cause : goal.returns-in-Err-commit-clause-cause
returns-in-Err-commit-clause-cause g c told = tt

pub returns-in-Err-commit-clause-certain : goal.returns-in-Err-commit-clause-certain
returns-in-Err-commit-clause-certain g c told = tt

pub returns-in-Err-commit-clause-others : goal.returns-in-Err-commit-clause-others
returns-in-Err-commit-clause-others g c told other apart =
    let first = c.begin.ensures.stays told in
    let second = c.make.ensures.stays told in
    let last = c.abort.ensures.stays told in
    last.others other apart ∙ others_stay _ c.args.caller (g.C.Core.view c.make.new.core) (g.C.Core.view c.commit.new.core) _ c.commit.ensures.steps.moves other apart ∙ second.others other apart ∙ first.others other apart

pub returns-in-Err-commit-clause-grows : goal.returns-in-Err-commit-clause-grows
returns-in-Err-commit-clause-grows g c told =
    let first = c.begin.ensures.stays told in
    let second = c.make.ensures.stays told in
    let last = c.abort.ensures.stays told in
    grown_after (λ answer. g.W.Work.does c.args.work.now answer) c.args.caller c.in-Ok.answer (g.C.Core.view c.args.core.now) (g.C.Core.view c.begin.new.core) (g.C.Core.view c.make.new.core) first.goes_on.base first.history second.history (c.in-Ok.ensures.done told) (g.C.Core.view c.commit.new.core) (g.C.Core.view c.abort.new.core) last.history last.doubt (second.doubt ∙ first.doubt) (c.commit.ensures.grows told)

pub returns-in-Err-clause-limits : goal.returns-in-Err-clause-limits
returns-in-Err-clause-limits g c = c.abort-in-Err.ensures.steps.limits ∙ c.make.ensures.limits ∙ c.begin.ensures.steps.limits

pub returns-in-Err-clause-made : goal.returns-in-Err-clause-made
returns-in-Err-clause-made g c told = tt

pub returns-in-Err-clause-certain : goal.returns-in-Err-clause-certain
returns-in-Err-clause-certain g c told = tt
