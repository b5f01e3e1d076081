use Rattle.std.proofs.Common.{[], ◌≡◌, map, sym, ap, ◌∙◌}
use Rattle.std.proofs.IntoIterSteps.{All-taken}
use Rattle.caller_plans.specs.declared.draft.Draft.{Draft}
use Rattle.caller_plans.specs.Drafts.{drafted}
use Rattle.caller_plans.proofs.Drafting.{drafted_last}
use Rattle.caller_plans.proofs.script.Reading.ended.Goals as goal

pub returns-clause-plans : goal.returns-clause-plans
returns-clause-plans c =
    let start = c.into_iter-draft-iterator in
    let loop = c.loop-draft in
    let all : loop.yielded ≡ c.args.self.drafts.items =
    All-taken start.result loop.yielded (c.next.new.self, (loop.draft-iterator, loop.yielded_by, c.in-None.ensures.steps)) ∙ start.ensures.into_iter_gives.0 in
    loop.invariant ∙ (ap (map (λ (draft : Draft). drafted 0 draft [])) all ∙ sym (drafted_last 0 c.args.self.drafts.items))
