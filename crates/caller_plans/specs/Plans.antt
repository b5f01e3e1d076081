-- What each caller of a script plans.
use Rattle.std.specs.Prelude.{ℕ, zero, suc, Bool, true, false, nat_eq, if◌then◌else◌, List, [], ◌∷◌, ◌++◌, Option, Some, None, option_map, option_to_list}
use Rattle.std.specs.List.{AllZip}
use Rattle.std.specs.Map.{update}
use Rattle.history.specs.declared.call.Call.{Call}
use Rattle.history.specs.declared.call.Call.TheVariants.{Begin, Table, Control}
use Rattle.history.specs.declared.call.TableCall.{TableCall}
use Rattle.history.specs.declared.call.Control.TheVariants.{Commit, Abort, Offer}
use Rattle.script_text.specs.declared.joint_line.JointLine.{JointLine}
use Rattle.script_text.specs.declared.joint_line.JointLine.TheVariants.{Told, Bad}
use Rattle.script_text.specs.JointLine.{JointLineSays}
use Rattle.caller_plans.specs.declared.plan.Plan.{Plan}
use Rattle.caller_plans.specs.declared.plan.PlanEnd.TheVariants as end
use Rattle.caller_plans.specs.declared.fate.LineFault.{LineFault}
use Rattle.caller_plans.specs.declared.fate.LineFault.TheVariants as fault

-- A call of a caller that is outside a transaction, or has made these calls of one that has begun: whether it is stray, where the caller is
-- after it, and the plan that it ends, if any. Stray, and passed over, are a call outside a transaction, a begin within one, each settle and
-- each purge: what is offered is settled without a call.
abbrev pub after_call : Option (List TableCall) → Call → Bool × Option (List TableCall) × List Plan
after_call None Begin = (false, Some [], [])
after_call (Some made) (Table call) = (false, Some (made ++ call ∷ []), [])
after_call (Some made) (Control Commit) = (false, None, record { calls = made; end = end.Commit } ∷ [])
after_call (Some made) (Control Abort) = (false, None, record { calls = made; end = end.Abort } ∷ [])
after_call (Some made) (Control Offer) = (false, None, record { calls = made; end = end.Offer } ∷ [])
after_call begun call = (true, begun, [])

-- the transactions that a caller's calls in these lines make, from there on
abbrev pub planned : ℕ → Option (List TableCall) → List JointLine → List Plan
planned caller begun [] = option_to_list (option_map (λ made. record { calls = made; end = end.Unended }) begun)
planned caller begun (Told other call ∷ lines) =
    if nat_eq other caller then (after_call begun call).2 ++ planned caller (after_call begun call).1 lines else planned caller begun lines
planned caller begun (line ∷ lines) = planned caller begun lines

-- the lines from the n-th on that are bad or stray, given where each caller is
abbrev pub faults_from : ℕ → (ℕ → Option (List TableCall)) → List JointLine → List LineFault
faults_from n begun [] = []
faults_from n begun (Bad ∷ lines) = fault.Bad n ∷ faults_from (suc n) begun lines
faults_from n begun (Told caller call ∷ lines) = (if (after_call (begun caller) call).0 then fault.Stray n ∷ [] else [])
    ++ faults_from (suc n) (update nat_eq begun caller (after_call (begun caller) call).1) lines
faults_from n begun (line ∷ lines) = faults_from (suc n) begun lines

-- what each line says, with this many callers and readers
abbrev pub AllSay : (callers readers : ℕ) → List (List ℕ) → List JointLine → Type 0
AllSay callers readers lines said = AllZip (JointLineSays callers readers) lines said

-- what each of n callers plans, from this one on
abbrev pub plans_from : ℕ → ℕ → List JointLine → List (List Plan)
plans_from caller zero lines = []
plans_from caller (suc n) lines = planned caller None lines ∷ plans_from (suc caller) n lines
