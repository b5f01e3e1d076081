-- What callers plan, as far as a script has been read.
use Rattle.std.specs.Prelude.{ℕ, suc, ◌≡◌, ◌<◌, List, [], ◌∷◌, ◌++◌, length, slice_get, Option, Some, None, option_map, option_to_list}
use Rattle.history.specs.declared.call.TableCall.{TableCall}
use Rattle.script_text.specs.declared.joint_line.JointLine.{JointLine}
use Rattle.script_text.specs.declared.joint_line.JointLine.TheVariants.{Told, Read}
use Rattle.caller_plans.specs.Asks.{all_asked}
use Rattle.caller_plans.specs.declared.plan.Plan.{Plan}
use Rattle.caller_plans.specs.declared.plan.PlanEnd.{PlanEnd}
use Rattle.caller_plans.specs.declared.fate.LineFault.{LineFault}
use Rattle.caller_plans.specs.declared.draft.Draft.{Draft}
use Rattle.caller_plans.specs.declared.script.Reading.{Reading}
use Rattle.caller_plans.specs.Plans.{planned, faults_from}

-- a caller that has made no call
abbrev pub empty_draft : Draft
empty_draft = record { plans = []; begun = None }

-- all plans of the caller, if these lines are the rest
abbrev pub drafted : ℕ → Draft → List JointLine → List Plan
drafted caller draft lines = draft.plans ++ planned caller draft.begun lines

-- the plan of these calls, if there is one, with this end
abbrev pub plan_ended : Option (List TableCall) → PlanEnd → List Plan
plan_ended begun end = option_to_list (option_map (λ calls. record { calls = calls; end = end }) begun)

-- the calls of the transaction that a caller is within; beyond the callers none is within one
abbrev pub one_begun : Option Draft → Option (List TableCall)
one_begun None = None
one_begun (Some draft) = draft.begun

abbrev pub begun_in : List Draft → ℕ → Option (List TableCall)
begun_in drafts caller = one_begun (slice_get drafts caller)

-- all plans of the callers from this one on, if these lines are the rest
abbrev pub all_drafted : ℕ → List Draft → List JointLine → List (List Plan)
all_drafted caller [] lines = []
all_drafted caller (draft ∷ drafts) lines = drafted caller draft lines ∷ all_drafted (suc caller) drafts lines

-- all faults, if these lines are the rest, from the n-th on
abbrev pub all_faults : ℕ → Reading → List JointLine → List LineFault
all_faults n reading lines = reading.faults ++ faults_from n (begun_in reading.drafts.items) lines

-- if the line is a call, its caller is one of this many, and if a reader asks, it is one of that many
abbrev pub IsAmong : (callers readers : ℕ) → JointLine → Type 0
IsAmong callers readers (Told caller call) = caller < callers
IsAmong callers readers (Read reader key) = reader < readers
IsAmong callers readers _ = Unit {0}

-- The n-th line was taken: for any rest, the faults, the plans and what readers ask for are what they were for the line followed by that rest.
pub record Takes (n : ℕ) (line : JointLine) (old new : Reading) : Type 0 where
  pub count : length new.drafts.items ≡ length old.drafts.items
  pub faults : (lines : List JointLine) → all_faults (suc n) new lines ≡ all_faults n old (line ∷ lines)
  pub plans : (lines : List JointLine) → all_drafted 0 new.drafts.items lines ≡ all_drafted 0 old.drafts.items (line ∷ lines)
  pub readers : length new.asks.items ≡ length old.asks.items
  pub asks : (lines : List JointLine) → all_asked 0 new.asks.items lines ≡ all_asked 0 old.asks.items (line ∷ lines)
