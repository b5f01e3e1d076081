-- A worker's turns report a fault of the medium exactly if that stopped it.
use Rattle.std.proofs.Common.{◌≡◌, ◌||◌, inl, inr, ℕ, zero, suc, Bool, true, false, List, [], ◌∷◌, ◌++◌, Option, Some, None, Result, Ok, Err, drop, length, refl, sym, ap, ◌∙◌}
use Rattle.std.specs.Prelude.{MatchBool, if◌then◌else◌, option_map}
use Rattle.std.proofs.lemmas.Bool.{true≢false}
use Rattle.std.proofs.lemmas.List.Folds.{list_any-append}
use Rattle.caller_steps.specs.Run.{Heard}
use Rattle.history.specs.declared.call.Call.{Call}
use Rattle.history.specs.declared.call.Call.TheVariants.{Control}
use Rattle.history.specs.declared.call.TableCall.{TableCall}
use Rattle.history.specs.declared.call.Control.TheVariants.{Abort, Settle}
use Rattle.history.specs.declared.call.Reply.{Reply}
use Rattle.history.specs.declared.call.Reply.TheVariants as says
use Rattle.caller_steps.specs.Fate.{is_media, is_refusal}
use Rattle.mars_manager.specs.Locks.{steps_of}
use Rattle.caller_steps.specs.Own.{has_media}
use Rattle.caller_plans.specs.declared.plan.Plan.{Plan}
use Rattle.caller_plans.specs.declared.plan.PlanEnd.{PlanEnd}
use Rattle.caller_plans.specs.declared.plan.PlanEnd.TheVariants as end
use Rattle.caller_plans.specs.declared.fate.Fate.{Fate}
use Rattle.caller_work.specs.declared.tries.Tries.{Tries}
use Rattle.caller_work.specs.declared.tries.Tries.TheVariants.{NoLimit}
use Rattle.caller_work.specs.Tries.{end_call, is_last, end_outcome, refusal_outcome, IsOne, Ends, GivesUp, Takes, IsTry, AreHeldUp, IsMade, Works, IsWork}
use Rattle.caller_work.specs.Standing.{stop_for}
use Rattle.caller_work.specs.Worked.{is_fault, end_of}

-- a try that a fault of the medium stopped
abbrev fault_in : Result Fate Reply → Bool
fault_in (Ok fate) = false
fault_in (Err reply) = is_media reply

at_end : (ends : PlanEnd) (reply : Reply) → is_media reply ≡ fault_in (end_outcome ends reply)
at_end end.Commit (says.Committed at) = refl
at_end end.Commit reply = refl
at_end end.Offer (says.Committed at) = refl
at_end end.Offer reply = refl
at_end end.Abort says.Fine = refl
at_end end.Abort reply = refl
at_end end.Unended says.Fine = refl
at_end end.Unended reply = refl

at_refusal : (reply : Reply) → fault_in (refusal_outcome reply) ≡ false
at_refusal (says.Busy holder) = refl
at_refusal reply = refl

granted_sure : (reply : Reply) → is_refusal reply ≡ false → is_media reply ≡ false
granted_sure says.Media e = absurd (true≢false e)
granted_sure reply e = refl

not_last_sure : (reply : Reply) → is_last reply ≡ false → is_media reply ≡ false
not_last_sure says.Media e = absurd (true≢false e)
not_last_sure reply e = refl

in_both : (xs ys : Heard) → has_media (xs ++ ys) ≡ (has_media xs || has_media ys)
in_both xs ys = list_any-append (λ (entry : Call × Reply). is_media entry.1) xs ys

either_none : (b : Bool) → (b || false) ≡ b
either_none true = refl
either_none false = refl

in_one : (call : Call) (outcome : Reply → Result Fate Reply) (told : Heard) (made : Result Fate Reply) → ((reply : Reply) → is_media reply ≡ fault_in (outcome reply)) → IsOne call outcome told made → has_media told ≡ fault_in made
in_one call outcome told made so (reply, is, came) = ap has_media is ∙ either_none (is_media reply) ∙ so reply ∙ ap fault_in (sym came)

-- after the refusal itself
in_given_up : (reply : Reply) (told : Heard) (made : Result Fate Reply) → GivesUp reply told made → (is_media reply || has_media told) ≡ fault_in made
in_given_up reply told made gives = go (is_last reply) refl gives
  where
    aborts : (answer : Reply) (b : Bool) → is_refusal answer ≡ b → is_media answer ≡ fault_in (if b then Err answer else refusal_outcome reply)
    aborts answer true e = refl
    aborts answer false e = granted_sure answer e ∙ sym (at_refusal reply)

    go : (b : Bool) → is_last reply ≡ b → MatchBool b ((told ≡ []) × (made ≡ Err reply)) (IsOne (Control Abort) (λ answer. if is_refusal answer then Err answer else refusal_outcome reply) told made) → (is_media reply || has_media told) ≡ fault_in made
    go true e (none, is) = ap (λ (l : Heard). is_media reply || has_media l) none ∙ either_none (is_media reply) ∙ ap fault_in (sym is)
    go false e one = ap (λ (b : Bool). b || has_media told) (not_last_sure reply e) ∙ in_one (Control Abort) (λ answer. if is_refusal answer then Err answer else refusal_outcome reply) told made (λ answer. aborts answer (is_refusal answer) refl) one

in_ends : (ends : PlanEnd) (told : Heard) (made : Result Fate Reply) → Ends ends told made → has_media told ≡ fault_in made
in_ends end.Commit told made one = in_one (Control (end_call end.Commit)) (end_outcome end.Commit) told made (at_end end.Commit) one
in_ends end.Abort told made one = in_one (Control (end_call end.Abort)) (end_outcome end.Abort) told made (at_end end.Abort) one
in_ends end.Unended told made one = in_one (Control (end_call end.Unended)) (end_outcome end.Unended) told made (at_end end.Unended) one
in_ends end.Offer told made (reply, rest, is, follows) = ap has_media is ∙ go (is_refusal reply) refl follows
  where
    go : (b : Bool) → is_refusal reply ≡ b → MatchBool b ((rest ≡ []) × (made ≡ Err reply)) (IsOne (Control Settle) (end_outcome end.Offer) rest made) → (is_media reply || has_media rest) ≡ fault_in made
    go true e (none, came) = ap (λ (l : Heard). is_media reply || has_media l) none ∙ either_none (is_media reply) ∙ ap fault_in (sym came)
    go false e one = ap (λ (b : Bool). b || has_media rest) (granted_sure reply e) ∙ in_one (Control Settle) (end_outcome end.Offer) rest made (at_end end.Offer) one

-- after a call that others follow, or that was refused
in_first : (calls : List TableCall) (ends : PlanEnd) (reply : Reply) (rest : Heard) (made : Result Fate Reply) → (Takes calls ends rest made → has_media rest ≡ fault_in made)
    → (b : Bool) → is_refusal reply ≡ b → MatchBool b (GivesUp reply rest made) (Takes calls ends rest made) → (is_media reply || has_media rest) ≡ fault_in made
in_first calls ends reply rest made more true e gives = in_given_up reply rest made gives
in_first calls ends reply rest made more false e takes = ap (λ (b : Bool). b || has_media rest) (granted_sure reply e) ∙ more takes

in_takes : (calls : List TableCall) (ends : PlanEnd) (told : Heard) (made : Result Fate Reply) → Takes calls ends told made → has_media told ≡ fault_in made
in_takes [] ends told made last = in_ends ends told made last
in_takes (call ∷ calls) ends told made (reply, rest, is, follows) = ap has_media is ∙ in_first calls ends reply rest made (λ takes. in_takes calls ends rest made takes) (is_refusal reply) refl follows

in_try : (plan : Plan) (told : Heard) (made : Result Fate Reply) → IsTry plan told made → has_media told ≡ fault_in made
in_try plan told made (reply, rest, is, follows) = ap has_media is ∙ in_first plan.calls plan.end reply rest made (λ takes. in_takes plan.calls plan.end rest made takes) (is_refusal reply) refl follows

in_held_up : (plan : Plan) (n : ℕ) (told : Heard) → AreHeldUp plan n told → has_media told ≡ false
in_held_up plan zero told none = ap has_media none
in_held_up plan (suc n) told (front, last, holder, is, before, one) =
    ap has_media is ∙ in_both front last ∙ ap (λ (b : Bool). b || has_media last) (in_held_up plan n front before) ∙ in_try plan last (Err (says.Busy holder)) one

in_made : (tries : Tries) (plan : Plan) (told : Heard) (made : Result Fate Reply) → IsMade tries plan told made → has_media told ≡ fault_in made
in_made tries plan told made (held, front, last, is, before, ends, count) =
    ap has_media is ∙ in_both front last ∙ ap (λ (b : Bool). b || has_media last) (in_held_up plan held front before) ∙ in_try plan last made ends

-- whether a fault of the medium stopped a worker
abbrev pub is_stopped_by_fault : Option Reply → Bool
is_stopped_by_fault None = false
is_stopped_by_fault (Some reply) = is_media reply

in_works : (tries : Tries) (plans : List Plan) (told : Heard) (fates : List Fate) (stopped : Option Reply) → Works tries plans told fates stopped → has_media told ≡ is_stopped_by_fault stopped
in_works tries [] told [] stopped (none, is) = ap has_media none ∙ ap is_stopped_by_fault (sym is)
in_works tries [] told (fate ∷ fates) stopped works = absurd works
in_works tries (plan ∷ plans) told [] stopped (reply, is, made) = in_made tries plan told (Err reply) made ∙ ap is_stopped_by_fault (sym is)
in_works tries (plan ∷ plans) told (fate ∷ fates) stopped (front, back, is, made, works) =
    ap has_media is ∙ in_both front back ∙ ap (λ (b : Bool). b || has_media back) (in_made tries plan front (Ok fate) made) ∙ in_works tries plans back fates stopped works

fault_at : (stopped : Option Reply) → is_stopped_by_fault stopped ≡ is_fault (end_of (option_map stop_for stopped))
fault_at None = refl
fault_at (Some (says.Busy holder)) = refl
fault_at (Some says.Media) = refl
fault_at (Some says.NoMemory) = refl
fault_at (Some reply) = refl

pub in_work : (tries : Tries) (plans : List Plan) (told : Heard) (fates : List Fate) (stopped : Option Reply) → IsWork tries plans told fates stopped → has_media told ≡ is_fault (end_of (option_map stop_for stopped))
in_work tries plans told fates stopped (inl works) = in_works tries plans told fates stopped works ∙ fault_at stopped
in_work tries plans told fates stopped (inr (front, back, early, late, holder, is, are, first, last)) =
    ap has_media is ∙ in_both front back ∙ ap (λ (b : Bool). b || has_media back) (in_works tries plans front early (Some (says.Busy holder)) first) ∙ in_works NoLimit (drop (length early) plans) back late stopped last ∙ fault_at stopped

-- a `Busy` reports no fault
media_at : (call : Call) (reply : Reply) (told : Heard) → has_media (steps_of told) ≡ has_media told → has_media (steps_of ((call, reply) ∷ told)) ≡ has_media ((call, reply) ∷ told)
media_at call says.Fine told rest = rest
media_at call (says.Found v) told rest = rest
media_at call says.Absent told rest = rest
media_at call (says.Listed v) told rest = rest
media_at call (says.Saved v) told rest = rest
media_at call (says.Committed v) told rest = rest
media_at call (says.Purged v) told rest = rest
media_at call says.NoTransaction told rest = rest
media_at call says.NoTable told rest = rest
media_at call says.Already told rest = rest
media_at call (says.NoSave v) told rest = rest
media_at call says.SavesFull told rest = rest
media_at call (says.Busy v) told rest = rest
media_at call (says.LogFull l h n) told rest = rest
media_at call (says.SlotsFull v) told rest = rest
media_at call (says.PagesFull v) told rest = rest
media_at call says.Media told rest = refl
media_at call says.Dead told rest = rest
media_at call (says.Damaged v) told rest = rest
media_at call says.NoMemory told rest = rest

pub steps_media : (told : Heard) → has_media (steps_of told) ≡ has_media told
steps_media [] = refl
steps_media ((call, reply) ∷ told) = media_at call reply told (steps_media told)
