-- What a worker tells its gate.
use Rattle.std.specs.Prelude.{ℕ, zero, suc, ◌≡◌, ◌+◌, if◌then◌else◌, IsFalse, List, [], ◌∷◌, ◌++◌, All, Option, Some, Result, Ok, Err}
use Rattle.caller_steps.specs.Run.{Heard}
use Rattle.history.specs.declared.call.Call.{Call}
use Rattle.history.specs.declared.call.Call.TheVariants.{Begin, Control}
use Rattle.history.specs.declared.call.TableCall.{TableCall}
use Rattle.history.specs.declared.call.Control.TheVariants.{Offer}
use Rattle.history.specs.declared.call.Reply.{Reply}
use Rattle.caller_steps.specs.Fate.{is_refusal}
use Rattle.caller_plans.specs.declared.plan.Plan.{Plan}
use Rattle.caller_plans.specs.declared.plan.PlanEnd.{PlanEnd}
use Rattle.caller_plans.specs.declared.plan.PlanEnd.TheVariants as end
use Rattle.caller_plans.specs.declared.fate.Fate.{Fate}
use Rattle.caller_work.specs.declared.tries.Tries.{Tries}
use Rattle.caller_work.specs.Tries.{IsTry, IsMade}
use Rattle.caller_work.specs.declared.gate.Place.{Place}
use Rattle.caller_work.specs.declared.gate.Place.TheVariants.{Began, Answered, Offered, Ended}

-- the last call that a caller was told of is this one, and it was granted
abbrev pub HasGranted : Call → Heard → Type 0
HasGranted call told = (before : Heard) × (reply : Reply) × (told ≡ before ++ (call, reply) ∷ []) × IsFalse (is_refusal reply)

-- by this, a worker stands where its caller's transaction has just begun, or was just offered; else nothing is asked
abbrev pub StandsAt : Place → Heard → Type 0
StandsAt (Began caller nth) told = HasGranted Begin told
StandsAt (Offered caller nth) told = HasGranted (Control Offer) told
StandsAt _ told = Unit {0}

-- more places stand behind those of before, and this is so of each
pub record AllMore (Knows : Place → Type 0) (before after : List Place) : Type 0 where
  pub places : List Place
  pub is : after ≡ before ++ places
  pub all : All Knows places

-- each of these calls was answered, counted from one on
abbrev pub answers : (caller nth call : ℕ) → Heard → List Place
answers caller nth call [] = []
answers caller nth call (entry ∷ told) = Answered caller nth call ∷ answers caller nth (call + 1) told

-- what is told at the end of a plan: an offer that is not refused
abbrev pub end_places : (caller nth : ℕ) → PlanEnd → Heard → List Place
end_places caller nth end.Offer ((call, reply) ∷ told) = if is_refusal reply then [] else Offered caller nth ∷ []
end_places caller nth ends told = []

-- what is told of a plan's calls, counted from one on, up to the first that is refused, and of its end
abbrev pub call_places : (caller nth call : ℕ) → List TableCall → PlanEnd → Heard → List Place
call_places caller nth call [] ends told = end_places caller nth ends told
call_places caller nth call (asked ∷ calls) ends [] = []
call_places caller nth call (asked ∷ calls) ends ((made, reply) ∷ told) =
    Answered caller nth call ∷ (if is_refusal reply then [] else call_places caller nth (call + 1) calls ends told)

-- what is told of one try of a plan: nothing before its begin is granted
abbrev pub try_places : (caller nth : ℕ) → Plan → Heard → List Place
try_places caller nth plan [] = []
try_places caller nth plan ((call, reply) ∷ told) = if is_refusal reply then [] else Began caller nth ∷ call_places caller nth 1 plan.calls plan.end told

-- these places were told of so many tries of a plan, one after another
abbrev pub AreTold : (caller nth : ℕ) → Plan → ℕ → Heard → List Place → Type 0
AreTold caller nth plan zero told places = (told ≡ []) × (places ≡ [])
AreTold caller nth plan (suc n) told places = (front : Heard) × (last : Heard) × (made : Result Fate Reply) × (earlier : List Place) × (told ≡ front ++ last)
    × IsTry plan last made × (places ≡ earlier ++ try_places caller nth plan last) × AreTold caller nth plan n front earlier

-- a plan was made, and this was told of it: all of its tries, and then that it ended
abbrev pub IsHeard : (caller nth : ℕ) → Tries → Plan → Heard → Result Fate Reply → List Place → Type 0
IsHeard caller nth tries plan told made places = IsMade tries plan told made × (n : ℕ) × (first : List Place) × AreTold caller nth plan n told first × (places ≡ first ++ Ended caller nth ∷ [])

-- The plans were made one after another, with these fates of the first ones and perhaps a stop in the next. Each that was taken up was told of
-- with its number.
abbrev pub AreHeard : (caller nth : ℕ) → Tries → List Plan → Heard → List Fate → Option Reply → List Place → Type 0
AreHeard caller nth tries [] told [] stopped places = (told ≡ []) × (places ≡ [])
AreHeard caller nth tries [] told (fate ∷ fates) stopped places = ⊥
AreHeard caller nth tries (plan ∷ plans) told [] stopped places = (reply : Reply) × (stopped ≡ Some reply) × IsHeard caller nth tries plan told (Err reply) places
AreHeard caller nth tries (plan ∷ plans) told (fate ∷ fates) stopped places = (front : Heard) × (back : Heard) × (first : List Place) × (others : List Place)
    × (told ≡ front ++ back) × (places ≡ first ++ others) × IsHeard caller nth tries plan front (Ok fate) first × AreHeard caller (nth + 1) tries plans back fates stopped others
