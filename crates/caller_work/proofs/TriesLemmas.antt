-- Tries of plans, put together from their parts.
use Rattle.std.proofs.Common.{◌≡◌, ℕ, suc, ◌-◌, ◌<◌, ◌≤◌, List, [], ◌∷◌, ◌++◌, Option, Some, None, Result, Ok, Err, Bool, true, false, inl, inr, arith, refl, sym, ap, ◌∙◌, subst}
use Rattle.std.specs.Prelude.{MatchBool, nat_lt, if◌then◌else◌}
use Rattle.std.proofs.lemmas.Bool.{true≢false}
use Rattle.std.proofs.lemmas.Bool.Decides.{nat_tests}
use Rattle.caller_steps.specs.Run.{Heard}
use Rattle.history.specs.declared.call.Call.TheVariants.{Begin, Table, Control}
use Rattle.history.specs.declared.call.TableCall.{TableCall}
use Rattle.history.specs.declared.call.Control.TheVariants.{Abort, Offer, Settle}
use Rattle.history.specs.declared.call.Reply.{Reply}
use Rattle.history.specs.declared.call.Reply.TheVariants as says
use Rattle.caller_steps.specs.Fate.{is_refusal}
use Rattle.caller_plans.specs.declared.plan.Plan.{Plan}
use Rattle.caller_plans.specs.declared.plan.PlanEnd.{PlanEnd}
use Rattle.caller_plans.specs.declared.plan.PlanEnd.TheVariants as end
use Rattle.caller_plans.specs.declared.fate.Fate.{Fate}
use Rattle.caller_work.specs.declared.tries.Tries.{Tries}
use Rattle.caller_work.specs.declared.tries.Tries.TheVariants.{Times, NoLimit}
use Rattle.caller_work.specs.Tries.{end_call, is_last, end_outcome, refusal_outcome, IsOne, Ends, GivesUp, Takes, IsTry, AreHeldUp, Allows, IsMade, Works}
use Rattle.caller_work.specs.Standing.{is_held_up, AreSome, after_one, AreGranted, IsRefused}

-- a try that a locked key stopped, and one that came to something else
pub held_by : (made : Result Fate Reply) → is_held_up made ≡ true → (holder : ℕ) × (made ≡ Err (says.Busy holder))
held_by (Ok fate) is = absurd (true≢false (sym is))
held_by (Err (says.Busy holder)) is = (holder, refl)
held_by (Err reply) is = absurd (true≢false (sym is))

pub held_by_none : (made : Result Fate Reply) → is_held_up made ≡ false → (holder : ℕ) → made ≡ Err (says.Busy holder) → ⊥
held_by_none made free holder is = true≢false (sym (ap is_held_up is) ∙ free)

-- a call that was granted, and what follows it
pub granted_more : (call : TableCall) (calls all : List TableCall) (reply : Reply) (rest : Heard) → all ≡ call ∷ calls → is_refusal reply ≡ false → AreGranted calls rest → AreGranted all ((Table call, reply) ∷ rest)
granted_more call calls all reply rest is free others = subst (λ (l : List TableCall). AreGranted l ((Table call, reply) ∷ rest)) (sym is) (reply, rest, refl, free, others)

pub refused_more : (call : TableCall) (calls all : List TableCall) (reply refusal : Reply) (rest : Heard) → all ≡ call ∷ calls → is_refusal reply ≡ false → IsRefused calls refusal rest → IsRefused all refusal ((Table call, reply) ∷ rest)
refused_more call calls all reply refusal rest is free others = subst (λ (l : List TableCall). IsRefused l refusal ((Table call, reply) ∷ rest)) (sym is) (reply, rest, refl, inl (free, others))

-- a call that was refused
pub refused_now : (call : TableCall) (calls all : List TableCall) (reply : Reply) → all ≡ call ∷ calls → is_refusal reply ≡ true → IsRefused all reply ((Table call, reply) ∷ [])
refused_now call calls all reply is refused = subst (λ (l : List TableCall). IsRefused l reply ((Table call, reply) ∷ [])) (sym is) (reply, [], refl, inr (refused, refl, refl))

pub granted_none : (all : List TableCall) → all ≡ [] → AreGranted all []
granted_none all is = subst (λ (l : List TableCall). AreGranted l []) (sym is) refl

match_false : (b : Bool) (P Q : Type 0) → b ≡ false → Q → MatchBool b P Q
match_false true P Q e q = absurd (true≢false e)
match_false false P Q e q = q

match_true : (b : Bool) (P Q : Type 0) → b ≡ true → P → MatchBool b P Q
match_true true P Q e p = p
match_true false P Q e p = absurd (true≢false (sym e))

-- a call that is granted, before others
pub takes_more : (call : TableCall) (calls : List TableCall) (ends : PlanEnd) (reply : Reply) (rest : Heard) (made : Result Fate Reply) → is_refusal reply ≡ false → Takes calls ends rest made → Takes (call ∷ calls) ends ((Table call, reply) ∷ rest) made
takes_more call calls ends reply rest made free others = (reply, rest, refl, match_false (is_refusal reply) (GivesUp reply rest made) (Takes calls ends rest made) free others)

-- one that is refused
pub takes_refused : (call : TableCall) (calls : List TableCall) (ends : PlanEnd) (reply : Reply) (rest : Heard) (made : Result Fate Reply) → is_refusal reply ≡ true → GivesUp reply rest made → Takes (call ∷ calls) ends ((Table call, reply) ∷ rest) made
takes_refused call calls ends reply rest made refused gives = (reply, rest, refl, match_true (is_refusal reply) (GivesUp reply rest made) (Takes calls ends rest made) refused gives)

-- all were granted, and then come those that end it
pub takes_all : (calls : List TableCall) (ends : PlanEnd) (asked end : Heard) (made : Result Fate Reply) → AreGranted calls asked → Ends ends end made → Takes calls ends (asked ++ end) made
takes_all [] ends asked end made none one = subst (λ (l : Heard). Ends ends (l ++ end) made) (sym none) one
takes_all (call ∷ calls) ends asked end made (reply, rest, is, free, others) one =
    subst (λ (l : Heard). Takes (call ∷ calls) ends (l ++ end) made) (sym is) (takes_more call calls ends reply (rest ++ end) made free (takes_all calls ends rest end made others one))

-- a try whose begin is granted, and one whose begin is refused
pub try_goes : (plan : Plan) (reply : Reply) (rest : Heard) (made : Result Fate Reply) → is_refusal reply ≡ false → Takes plan.calls plan.end rest made → IsTry plan ((Begin, reply) ∷ rest) made
try_goes plan reply rest made free others = (reply, rest, refl, match_false (is_refusal reply) (GivesUp reply rest made) (Takes plan.calls plan.end rest made) free others)

pub try_stops : (plan : Plan) (reply : Reply) (rest : Heard) (made : Result Fate Reply) → is_refusal reply ≡ true → GivesUp reply rest made → IsTry plan ((Begin, reply) ∷ rest) made
try_stops plan reply rest made refused gives = (reply, rest, refl, match_true (is_refusal reply) (GivesUp reply rest made) (Takes plan.calls plan.end rest made) refused gives)

abbrev nothing : Heard
nothing = []

abbrev stopped_by : Reply → Result Fate Reply
stopped_by reply = Err reply

-- it is not offered: one call ends it
pub ends_alone : (ends : PlanEnd) (told : Heard) (made : Result Fate Reply) → (ends ≡ end.Offer → ⊥) → IsOne (Control (end_call ends)) (end_outcome ends) told made → Ends ends told made
ends_alone end.Offer told made ne one = absurd (ne refl)
ends_alone end.Commit told made ne one = one
ends_alone end.Abort told made ne one = one
ends_alone end.Unended told made ne one = one

-- it is offered, and the offer is refused, or it is settled then
pub ends_refused : (ends : PlanEnd) (reply : Reply) → ends ≡ end.Offer → is_refusal reply ≡ true → Ends ends ((Control Offer, reply) ∷ []) (Err reply)
ends_refused ends reply is refused = subst (λ (e : PlanEnd). Ends e ((Control Offer, reply) ∷ []) (Err reply)) (sym is)
    (reply, [], refl, match_true (is_refusal reply) ((nothing ≡ []) × (stopped_by reply ≡ Err reply)) (IsOne (Control Settle) (end_outcome end.Offer) nothing (stopped_by reply)) refused (refl, refl))

pub ends_settled : (ends : PlanEnd) (reply answer : Reply) → ends ≡ end.Offer → is_refusal reply ≡ false → Ends ends ((Control Offer, reply) ∷ (Control (end_call ends), answer) ∷ []) (end_outcome ends answer)
ends_settled ends reply answer is free = subst (λ (e : PlanEnd). Ends e ((Control Offer, reply) ∷ (Control (end_call e), answer) ∷ []) (end_outcome e answer)) (sym is)
    (reply, (Control Settle, answer) ∷ [], refl, match_false (is_refusal reply) (((Control Settle, answer) ∷ [] ≡ []) × (end_outcome end.Offer answer ≡ Err reply)) (IsOne (Control Settle) (end_outcome end.Offer) ((Control Settle, answer) ∷ []) (end_outcome end.Offer answer)) free (answer, refl, refl))

-- one of them was refused, and then the try was given up
pub takes_some : (calls : List TableCall) (ends : PlanEnd) (refusal : Reply) (asked end : Heard) (made : Result Fate Reply) → IsRefused calls refusal asked → GivesUp refusal end made → Takes calls ends (asked ++ end) made
takes_some [] ends refusal asked end made refused gives = absurd refused
takes_some (call ∷ calls) ends refusal asked end made (reply, rest, is, inl (free, others)) gives =
    subst (λ (l : Heard). Takes (call ∷ calls) ends (l ++ end) made) (sym is) (takes_more call calls ends reply (rest ++ end) made free (takes_some calls ends refusal rest end made others gives))
takes_some (call ∷ calls) ends refusal asked end made (reply, rest, is, inr (refused, none, same)) gives =
    subst (λ (l : Heard). Takes (call ∷ calls) ends (l ++ end) made) (sym is)
    (takes_refused call calls ends reply (rest ++ end) made refused (subst (λ (r : Reply). GivesUp r (rest ++ end) made) same (subst (λ (l : Heard). GivesUp refusal (l ++ end) made) (sym none) gives)))

-- a refusal after which the worker makes no call, and one for which it aborts
pub gives_last : (reply : Reply) → is_last reply ≡ true → GivesUp reply [] (Err reply)
gives_last reply last = subst (λ (b : Bool). MatchBool b ((nothing ≡ []) × (stopped_by reply ≡ Err reply)) (IsOne (Control Abort) (λ answer. if is_refusal answer then Err answer else refusal_outcome reply) nothing (stopped_by reply))) (sym last) (refl, refl)

pub gives_aborted : (reply answer : Reply) (made : Result Fate Reply) → is_last reply ≡ false → made ≡ (if is_refusal answer then Err answer else refusal_outcome reply) → GivesUp reply ((Control Abort, answer) ∷ []) made
gives_aborted reply answer made goes is =
    match_false (is_last reply) (((Control Abort, answer) ∷ [] ≡ []) × (made ≡ Err reply)) (IsOne (Control Abort) (λ answer. if is_refusal answer then Err answer else refusal_outcome reply) ((Control Abort, answer) ∷ []) made) goes (answer, refl, is)

pub pick_true : {X : Type 0} (b : Bool) (x y : X) → b ≡ true → x ≡ (if b then x else y)
pick_true true x y e = refl
pick_true false x y e = absurd (true≢false (sym e))

pub pick_false : {X : Type 0} (b : Bool) (x y : X) → b ≡ false → y ≡ (if b then x else y)
pick_false true x y e = absurd (true≢false e)
pick_false false x y e = refl

times_more : (most n : ℕ) (made : Result Fate Reply) → 1 < most → Allows (Times (most - 1)) n made → Allows (Times most) (suc n) made
times_more most n (Ok fate) many allows = omega arith
times_more most n (Err (says.Busy holder)) many allows = omega arith
times_more most n (Err reply) many allows = omega arith

-- the tries that are left after one that was held up
pub allows_more : (tries left : Tries) (n : ℕ) (made : Result Fate Reply) → AreSome tries → after_one tries ≡ Some left → Allows left n made → Allows tries (suc n) made
allows_more NoLimit left n made some is allows = nolimit left n made is allows
  where
    nolimit : (left : Tries) (n : ℕ) (made : Result Fate Reply) → Some NoLimit ≡ Some left → Allows left n made → Allows NoLimit (suc n) made
    nolimit NoLimit n (Ok fate) is allows = tt
    nolimit NoLimit n (Err (says.Busy holder)) is allows = allows
    nolimit NoLimit n (Err reply) is allows = tt
    nolimit (Times most) n made is allows = absurd (cc)
allows_more (Times most) left n made some is allows = go (nat_lt 1 most) refl is
  where
    go : (b : Bool) → nat_lt 1 most ≡ b → (if b then Some (Times (most - 1)) else None) ≡ Some left → Allows (Times most) (suc n) made
    go false e is = absurd (cc)
    go true e is =
        let same : left ≡ Times (most - 1) = cc in
        times_more most n made (grind (arith, nat_tests)) (subst (λ (t : Tries). Allows t n made) same allows)

-- and there is at least one
pub some_left : (tries left : Tries) → after_one tries ≡ Some left → AreSome left
some_left NoLimit left is = nolimit left is
  where
    nolimit : (left : Tries) → Some NoLimit ≡ Some left → AreSome left
    nolimit NoLimit is = tt
    nolimit (Times most) is = absurd (cc)
some_left (Times most) left is = go (nat_lt 1 most) refl is
  where
    go : (b : Bool) → nat_lt 1 most ≡ b → (if b then Some (Times (most - 1)) else None) ≡ Some left → AreSome left
    go false e is = absurd (cc)
    go true e is =
        let same : left ≡ Times (most - 1) = cc in
        let many : 1 < most = grind (arith, nat_tests) in
        subst AreSome (sym same) (let less : 0 < most - 1 = omega arith in less)

-- no further try after the last one, which may have been held up,
pub allows_none : (tries : Tries) (holder : ℕ) → AreSome tries → after_one tries ≡ None → Allows tries 0 (Err (says.Busy holder))
allows_none NoLimit holder some is = absurd (cc)
allows_none (Times most) holder some is = go (nat_lt 1 most) refl is
  where
    go : (b : Bool) → nat_lt 1 most ≡ b → (if b then Some (Times (most - 1)) else None) ≡ None → Allows (Times most) 0 (Err (says.Busy holder))
    go true e is = absurd (cc)
    go false e is = let few : most ≤ 1 = grind (arith, nat_tests) in omega arith

-- or came to something else
pub allows_one : (tries : Tries) (made : Result Fate Reply) → AreSome tries → ((holder : ℕ) → made ≡ Err (says.Busy holder) → ⊥) → Allows tries 0 made
allows_one (Times most) (Ok fate) some free = some
allows_one (Times most) (Err (says.Busy holder)) some free = absurd (free holder refl)
allows_one (Times most) (Err reply) some free = some
allows_one NoLimit (Ok fate) some free = tt
allows_one NoLimit (Err (says.Busy holder)) some free = absurd (free holder refl)
allows_one NoLimit (Err reply) some free = tt

-- a plan made in one try more than a rest of its tries says
pub made_more : (plan : Plan) (tries : Tries) (n : ℕ) (front one : Heard) (made : Result Fate Reply) → AreHeldUp plan n front → IsTry plan one made → Allows tries n made → IsMade tries plan (front ++ one) made
made_more plan tries n front one made held last count = (n, front, one, refl, held, last, count)

-- the plans from one on, whose first is made
pub works_more : (tries : Tries) (plan : Plan) (plans all : List Plan) (front back : Heard) (fate : Fate) (fates : List Fate) (stopped : Option Reply) → all ≡ plan ∷ plans → IsMade tries plan front (Ok fate) → Works tries plans back fates stopped
    → Works tries all (front ++ back) (fate ∷ fates) stopped
works_more tries plan plans all front back fate fates stopped is made others = subst (λ (l : List Plan). Works tries l (front ++ back) (fate ∷ fates) stopped) (sym is) (front, back, refl, made, others)

pub works_stopped : (tries : Tries) (plan : Plan) (plans all : List Plan) (told : Heard) (why : Reply) → all ≡ plan ∷ plans → IsMade tries plan told (Err why) → Works tries all told [] (Some why)
works_stopped tries plan plans all told why is made = subst (λ (l : List Plan). Works tries l told [] (Some why)) (sym is) (why, refl, made)

pub works_none : (tries : Tries) (all : List Plan) → all ≡ [] → Works tries all [] [] None
works_none tries all is = subst (λ (l : List Plan). Works tries l [] [] None) (sym is) (refl, refl)

-- without a limit no locked key stops a worker
pub endless : (plans : List Plan) (told : Heard) (fates : List Fate) (holder : ℕ) → Works NoLimit plans told fates (Some (says.Busy holder)) → ⊥
endless [] told [] holder works = absurd (cc)
endless [] told (fate ∷ fates) holder works = works
endless (plan ∷ plans) told [] holder (why, is, made) =
    let same : why ≡ says.Busy holder = cc in
    subst (λ (r : Reply). Allows NoLimit made.0 (Err r)) same made.6
endless (plan ∷ plans) told (fate ∷ fates) holder (front, back, is, made, works) = endless plans back fates holder works
