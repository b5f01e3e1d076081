-- What a worker asks for its caller's plans and what comes of it: the turns of a caller, cut into tries.
use Rattle.std.specs.Prelude.{ℕ, zero, suc, ◌≡◌, ◌+◌, ◌<◌, ◌⊎◌, Bool, true, false, MatchBool, if◌then◌else◌, List, [], ◌∷◌, ◌++◌, length, drop, Option, Some, None, Result, Ok, Err}
use Rattle.caller_steps.specs.Run.{Heard}
use Rattle.history.specs.declared.call.Call.{Call}
use Rattle.history.specs.declared.call.Call.TheVariants.{Begin, Table, Control}
use Rattle.history.specs.declared.call.TableCall.{TableCall}
use Rattle.history.specs.declared.call.Control as history
use Rattle.history.specs.declared.call.Control.TheVariants.{Commit, Abort, Offer, Settle}
use Rattle.history.specs.declared.call.Reply.{Reply}
use Rattle.history.specs.declared.call.Reply.TheVariants as says
use Rattle.caller_steps.specs.Fate.{is_refusal}
use Rattle.mars_manager.specs.Locks.{steps_of}
use Rattle.caller_plans.specs.declared.plan.Plan.{Plan}
use Rattle.caller_plans.specs.declared.plan.PlanEnd.{PlanEnd}
use Rattle.caller_plans.specs.declared.plan.PlanEnd.TheVariants as end
use Rattle.caller_plans.specs.declared.fate.Fate.{Fate}
use Rattle.caller_plans.specs.declared.fate.Fate.TheVariants.{Committed, Aborted, Refused}
use Rattle.caller_work.specs.declared.tries.Tries.{Tries}
use Rattle.caller_work.specs.declared.tries.Tries.TheVariants.{Times, NoLimit}

-- the last call of a plan: what was offered is settled
abbrev pub end_call : PlanEnd → history.Control
end_call end.Commit = Commit
end_call end.Offer = Settle
end_call _ = Abort

-- a worker makes no further call after this refusal: the medium has failed, or there was no memory
abbrev pub is_last : Reply → Bool
is_last says.Media = true
is_last says.Dead = true
is_last says.NoMemory = true
is_last _ = false

-- what comes of a try whose last call got this reply: the plan's fate, or that the try was stopped
abbrev pub end_outcome : PlanEnd → Reply → Result Fate Reply
end_outcome end.Commit (says.Committed at) = Ok (Committed at)
end_outcome end.Commit reply = Err reply
end_outcome end.Offer (says.Committed at) = Ok (Committed at)
end_outcome end.Offer reply = Err reply
end_outcome _ says.Fine = Ok Aborted
end_outcome _ reply = Err reply

-- what comes of a try that is given up for this refusal: a locked key stops it, and another refusal is the plan's fate
abbrev pub refusal_outcome : Reply → Result Fate Reply
refusal_outcome (says.Busy holder) = Err (says.Busy holder)
refusal_outcome reply = Ok (Refused reply)

-- these turns are this one call, and this came of its reply
abbrev pub IsOne : Call → (Reply → Result Fate Reply) → Heard → Result Fate Reply → Type 0
IsOne call outcome told made = (reply : Reply) × (told ≡ (call, reply) ∷ []) × (made ≡ outcome reply)

-- These turns end a plan whose calls were all granted, and this came of it. What is offered is settled at once, unless the offer is refused.
abbrev pub Ends : PlanEnd → Heard → Result Fate Reply → Type 0
Ends end.Offer told made = (reply : Reply) × (rest : Heard) × (told ≡ (Control Offer, reply) ∷ rest) × MatchBool (is_refusal reply) ((rest ≡ []) × (made ≡ Err reply)) (IsOne (Control Settle) (end_outcome end.Offer) rest made)
Ends ends told made = IsOne (Control (end_call ends)) (end_outcome ends) told made

-- a try is given up for this refusal by an abort, unless that is the worker's last call
abbrev pub GivesUp : Reply → Heard → Result Fate Reply → Type 0
GivesUp reply told made = MatchBool (is_last reply) ((told ≡ []) × (made ≡ Err reply)) (IsOne (Control Abort) (λ answer. if is_refusal answer then Err answer else refusal_outcome reply) told made)

-- these calls are made in order and then those that end the plan, up to the first refusal; and what comes of that
abbrev pub Takes : List TableCall → PlanEnd → Heard → Result Fate Reply → Type 0
Takes [] ends told made = Ends ends told made
Takes (call ∷ calls) ends told made = (reply : Reply) × (rest : Heard) × (told ≡ (Table call, reply) ∷ rest) × MatchBool (is_refusal reply) (GivesUp reply rest made) (Takes calls ends rest made)

-- one try of a plan: its begin, and then its calls, unless the begin is refused
abbrev pub IsTry : Plan → Heard → Result Fate Reply → Type 0
IsTry plan told made = (reply : Reply) × (rest : Heard) × (told ≡ (Begin, reply) ∷ rest) × MatchBool (is_refusal reply) (GivesUp reply rest made) (Takes plan.calls plan.end rest made)

-- so many tries, one after another, were stopped by a locked key
abbrev pub AreHeldUp : Plan → ℕ → Heard → Type 0
AreHeldUp plan zero told = told ≡ []
AreHeldUp plan (suc n) told = (front : Heard) × (last : Heard) × (holder : ℕ) × (told ≡ front ++ last) × AreHeldUp plan n front × IsTry plan last (Err (says.Busy holder))

-- so many tries before the last one are allowed, and if that is stopped by a locked key too, no further one is
abbrev pub Allows : Tries → ℕ → Result Fate Reply → Type 0
Allows (Times most) n (Err (says.Busy holder)) = n + 1 ≡ most
Allows (Times most) n made = n < most
Allows NoLimit n (Err (says.Busy holder)) = ⊥
Allows NoLimit n made = Unit {0}

-- a plan was tried again as long as it met a locked key, and this came of the last try
abbrev pub IsMade : Tries → Plan → Heard → Result Fate Reply → Type 0
IsMade tries plan told made = (held : ℕ) × (front : Heard) × (last : Heard) × (told ≡ front ++ last) × AreHeldUp plan held front × IsTry plan last made × Allows tries held made

-- The plans were made one after another, and these are the fates of the first ones. The worker was stopped in the next one by this reply, or
-- none is left.
abbrev pub Works : Tries → List Plan → Heard → List Fate → Option Reply → Type 0
Works tries [] told [] stopped = (told ≡ []) × (stopped ≡ None)
Works tries [] told (fate ∷ fates) stopped = ⊥
Works tries (plan ∷ plans) told [] stopped = (reply : Reply) × (stopped ≡ Some reply) × IsMade tries plan told (Err reply)
Works tries (plan ∷ plans) told (fate ∷ fates) stopped = (front : Heard) × (back : Heard) × (told ≡ front ++ back) × IsMade tries plan front (Ok fate) × Works tries plans back fates stopped

-- All work for a caller: beside the others, with these tries for a plan; and after a stop at a locked key perhaps once more, at last, with
-- no limit.
abbrev pub IsWork : Tries → List Plan → Heard → List Fate → Option Reply → Type 0
IsWork tries plans told fates stopped = Works tries plans told fates stopped
    ⊎ ((front : Heard) × (back : Heard) × (early : List Fate) × (late : List Fate) × (holder : ℕ) × (told ≡ front ++ back) × (fates ≡ early ++ late)
    × Works tries plans front early (Some (says.Busy holder)) × Works NoLimit (drop (length early) plans) back late stopped)

-- the turns of a caller whose work this is: what it was told has besides them the replies `Busy`, which came of words of stripes
abbrev pub IsWorkOf : Tries → List Plan → Heard → List Fate → Option Reply → Type 0
IsWorkOf tries plans turns fates stopped = (told : Heard) × (turns ≡ steps_of told) × IsWork tries plans told fates stopped

-- the same for the plans that were made one after another
abbrev pub WorksOf : Tries → List Plan → Heard → List Fate → Option Reply → Type 0
WorksOf tries plans turns fates stopped = (told : Heard) × (turns ≡ steps_of told) × Works tries plans told fates stopped
