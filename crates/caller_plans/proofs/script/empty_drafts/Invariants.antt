use Rattle.std.proofs.Common.{◌≡◌, replicate}
use Rattle.caller_plans.specs.Drafts.{empty_draft}
use Rattle.caller_plans.proofs.script.empty_drafts.Given as goal

abbrev pub invariant-loop-caller : goal.invariant-loop-caller
invariant-loop-caller l = l.drafts.items ≡ replicate l._caller empty_draft
