use Rattle.std.proofs.Common.{[], ◌≡◌, map}
use Rattle.caller_plans.specs.declared.draft.Draft.{Draft}
use Rattle.caller_plans.specs.Drafts.{drafted}
use Rattle.caller_plans.proofs.script.Reading.ended.Given as goal

-- the plans of the drafts so far
abbrev pub invariant-loop-draft : goal.invariant-loop-draft
invariant-loop-draft l = l.plans.items ≡ map (λ (draft : Draft). drafted 0 draft []) l.yielded
