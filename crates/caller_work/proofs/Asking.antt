-- What callers asked for, and why they were told `Busy`.
use Rattle.std.proofs.Common.{◌≡◌, ◌≢◌, ◌||◌, ◌&&◌, ℕ, zero, suc, ◌<◌, ◌≤◌, Bool, true, false, List, [], ◌∷◌, ◌++◌, get_or, length, drop, Option, Some, Result, Ok, Err, append_assoc, refl, sym, ap, ◌∙◌, subst, inl, inr, ⊎_elim, arith}
use Rattle.std.specs.Prelude.{flat_map, Contains, MatchBool, if◌then◌else◌}
use Rattle.std.proofs.lemmas.List.{append_cancel_left}
use Rattle.std.proofs.lemmas.Bool.{false≢true, and_parts}
use Rattle.std.proofs.lemmas.List.Elements.{Contains-append_left, Contains-append_right, Contains-append_cases, Contains-push_cases}
use mathlib.Core.Logic.{dite}
use native.Mathlib.Decide.{dec_le}
use Rattle.caller_steps.specs.Run.{Heard}
use Rattle.history.specs.Locks.{touches, has_table, clash}
use Rattle.history.specs.declared.call.Call.{Call}
use Rattle.history.specs.declared.call.Call.TheVariants.{Begin, Table, Control}
use Rattle.history.specs.declared.call.TableCall.{TableCall}
use Rattle.history.specs.declared.call.Control.TheVariants.{Commit, Abort, Offer, Settle}
use Rattle.history.specs.declared.call.Reply.{Reply}
use Rattle.history.specs.declared.call.Reply.TheVariants as says
use Rattle.history.specs.declared.locks.Mode.{Mode}
use Rattle.history.specs.declared.locks.Mode.TheVariants as mode
use Rattle.caller_steps.specs.Fate.{is_refusal}
use Rattle.stripe_words.specs.Words.{Refuses}
use Rattle.mars_manager.specs.declared.view.Met.{Met}
use Rattle.mars_manager.specs.declared.view.Known.{Known}
use Rattle.mars_manager.specs.Pass.{PassView, names_of}
use Rattle.mars_manager.specs.Locks.{met, locks, IsAgain, IsBusyBy, IsRefusedFor}
use Rattle.mars_manager.specs.Asked.{IsStepOf, IsUpTo, AsksFor, HasAsked, against, Meets, AreMet, HaveAsked}
use Rattle.mars_manager.proofs.Asking.{only_one, one_here, none_here, refused_caused}
use Rattle.caller_plans.specs.declared.plan.Plan.{Plan}
use Rattle.caller_plans.specs.declared.plan.PlanEnd.{PlanEnd}
use Rattle.caller_plans.specs.declared.plan.PlanEnd.TheVariants as end
use Rattle.caller_plans.specs.declared.fate.Fate.{Fate}
use Rattle.caller_work.specs.declared.tries.Tries.{Tries}
use Rattle.caller_work.specs.declared.tries.Tries.TheVariants.{NoLimit}
use Rattle.caller_work.specs.Tries.{is_last, end_outcome, refusal_outcome, IsOne, Ends, GivesUp, Takes, IsTry, AreHeldUp, IsMade, Works, IsWork}
use Rattle.caller_work.specs.Asked.{IsHit, IsToldOf, HaveCauses}

-- no call, and the calls of one list after another
pub told_none : (names : List (List ℕ)) (n : ℕ) → IsToldOf names n [] []
told_none names n = record { named = λ step there. none_here step there; hits = λ call holder there. none_here (call, says.Busy holder) there }

pub told_both : (names : List (List ℕ)) (n : ℕ) (xs ys : Heard) (ms ns : List Met) → IsToldOf names n xs ms → IsToldOf names n ys ns → IsToldOf names n (xs ++ ys) (ms ++ ns)
told_both names n xs ys ms ns a b = record {
  named = λ step there. ⊎_elim
      (λ (first : Contains ms step). let one = a.named step first in (one.0, Contains-append_left xs ys one.0 one.1, one.2))
      (λ (second : Contains ns step). let one = b.named step second in (one.0, Contains-append_right xs ys one.0 one.1, one.2))
      (Contains-append_cases ms ns step there);
  hits = λ call holder there. ⊎_elim
      (λ (first : Contains xs (call, says.Busy holder)). let hit = a.hits call holder first in record { step = hit.step; asked = hit.asked; there = Contains-append_left ms ns hit.step hit.there; locks_it = hit.locks_it; why = hit.why })
      (λ (second : Contains ys (call, says.Busy holder)). let hit = b.hits call holder second in record { step = hit.step; asked = hit.asked; there = Contains-append_right ms ns hit.step hit.there; locks_it = hit.locks_it; why = hit.why })
      (Contains-append_cases xs ys (call, says.Busy holder) there);
}

module _ {C : Type 0} where
  -- the step that a `Busy` comes of is among those that the call made
  hit_of : (was last now : Known C) (call : Call) (h n : ℕ) (steps : List Met) → now.met ≡ was.met ++ steps → IsAgain n was last → IsRefusedFor call h last now → IsHit (names_of was) was.number call h steps
  hit_of was last now call h n steps is again refused =
      let r = refused.refused in
      let x : Met = met refused.stripe r.step r.found in
      let after : now.met ≡ last.met ++ (r.before ++ x ∷ []) = ap (λ (k : Known C). k.met) r.is in
      let before : last.met ≡ was.met ++ again.more = ap (λ (k : Known C). k.met) again.is in
      let same : steps ≡ again.more ++ (r.before ++ x ∷ []) = append_cancel_left was.met steps (again.more ++ (r.before ++ x ∷ []))
      (sym is ∙ after ∙ ap (λ (ms : List Met). ms ++ (r.before ++ x ∷ [])) before ∙ append_assoc was.met again.more (r.before ++ x ∷ [])) in record {
        step = x;
        asked = refused.asked;
        there = subst (λ (ms : List Met). Contains ms x) (sym same) (Contains-append_right again.more (r.before ++ x ∷ []) x (Contains-append_right r.before (x ∷ []) x (one_here x)));
        locks_it = subst (λ (names : List (List ℕ)). locks names call refused.stripe refused.asked ≡ true) (ap (λ (k : Known C). names_of k) again.is) refused.touches_it;
        why = subst (λ i. Refuses refused.asked r.found i h) (ap (λ (k : Known C). k.number) again.is) r.why;
      }

  -- one call of a pass
  pub told_one : (was now : Known C) (call : Call) (reply : Reply) → (m : Meets (IsStepOf (names_of was) call) was now) → ((n : ℕ) × (last : Known C) × IsAgain n was last × IsBusyBy call reply last now) → IsToldOf (names_of was) was.number ((call, reply) ∷ []) m.more
  told_one was now call reply m busy = record {
    named = λ step there. ((call, reply), one_here (call, reply), m.each step there);
    hits = λ its holder there.
        let e : (call, reply) ≡ (its, says.Busy holder) = only_one (call, reply) (its, says.Busy holder) there in
        let by : IsBusyBy its (says.Busy holder) busy.1 now = subst (λ (x : Call × Reply). IsBusyBy x.0 x.1 busy.1 now) e busy.3 in
        hit_of was busy.1 now its holder busy.0 m.more m.is busy.2 by.1;
  }

-- each call that a caller was told of has a property that the calls of its plans have
module _ (P : Call → Type 0) (begin : P Begin) (commit : P (Control Commit)) (abort : P (Control Abort)) (offer : P (Control Offer)) (settle : P (Control Settle)) where
  abbrev pub AllAre : Heard → Type 0
  AllAre told = (entry : Call × Reply) → Contains told entry → P entry.0

  are_none : (told : Heard) → told ≡ [] → AllAre told
  are_none told is entry there = none_here entry (subst (λ (l : Heard). Contains l entry) is there)

  are_both : (told front back : Heard) → told ≡ front ++ back → AllAre front → AllAre back → AllAre told
  are_both told front back is a b entry there = ⊎_elim (a entry) (b entry) (Contains-append_cases front back entry (subst (λ (l : Heard). Contains l entry) is there))

  are_one : (told : Heard) (call : Call) (reply : Reply) → told ≡ (call, reply) ∷ [] → P call → AllAre told
  are_one told call reply is holds entry there = subst (λ (x : Call × Reply). P x.0) (only_one (call, reply) entry (subst (λ (l : Heard). Contains l entry) is there)) holds

  ending : (ends : PlanEnd) (told : Heard) (made : Result Fate Reply) → Ends ends told made → AllAre told
  ending end.Commit told made (reply, is, outcome) = are_one told (Control Commit) reply is commit
  ending end.Abort told made (reply, is, outcome) = are_one told (Control Abort) reply is abort
  ending end.Unended told made (reply, is, outcome) = are_one told (Control Abort) reply is abort
  ending end.Offer told made (reply, rest, is, follows) = are_both told ((Control Offer, reply) ∷ []) rest is (are_one ((Control Offer, reply) ∷ []) (Control Offer) reply refl offer) (go (is_refusal reply) follows)
    where
      go : (b : Bool) → MatchBool b ((rest ≡ []) × (made ≡ Err reply)) (IsOne (Control Settle) (end_outcome end.Offer) rest made) → AllAre rest
      go true (none, outcome) = are_none rest none
      go false (answer, one, outcome) = are_one rest (Control Settle) answer one settle

  given_up : (reply : Reply) (told : Heard) (made : Result Fate Reply) → (b : Bool) → MatchBool b ((told ≡ []) × (made ≡ Err reply)) (IsOne (Control Abort) (λ answer. if is_refusal answer then Err answer else refusal_outcome reply) told made) → AllAre told
  given_up reply told made true (none, is) = are_none told none
  given_up reply told made false (answer, one, is) = are_one told (Control Abort) answer one abort

  either_way : (calls : List TableCall) (ends : PlanEnd) (reply : Reply) (rest : Heard) (made : Result Fate Reply) (b : Bool) → MatchBool b (GivesUp reply rest made) (Takes calls ends rest made) → (Takes calls ends rest made → AllAre rest) → AllAre rest
  either_way calls ends reply rest made true gives on = given_up reply rest made (is_last reply) gives
  either_way calls ends reply rest made false takes on = on takes

  taken : (calls : List TableCall) (ends : PlanEnd) (told : Heard) (made : Result Fate Reply) → ((call : TableCall) → Contains calls call → P (Table call)) → Takes calls ends told made → AllAre told
  taken [] ends told made each last = ending ends told made last
  taken (call ∷ calls) ends told made each (reply, rest, is, more) = are_both told ((Table call, reply) ∷ []) rest is (are_one ((Table call, reply) ∷ []) (Table call) reply refl (each call (Contains-append_left (call ∷ []) calls call (one_here call))))
      (either_way calls ends reply rest made (is_refusal reply) more (λ takes. taken calls ends rest made (λ other there. each other (Contains-append_right (call ∷ []) calls other there)) takes))

  tried : (plan : Plan) (told : Heard) (made : Result Fate Reply) → ((call : TableCall) → Contains plan.calls call → P (Table call)) → IsTry plan told made → AllAre told
  tried plan told made each (reply, rest, is, more) = are_both told ((Begin, reply) ∷ []) rest is (are_one ((Begin, reply) ∷ []) Begin reply refl begin)
      (either_way plan.calls plan.end reply rest made (is_refusal reply) more (λ takes. taken plan.calls plan.end rest made each takes))

  held_up : (plan : Plan) (n : ℕ) (told : Heard) → ((call : TableCall) → Contains plan.calls call → P (Table call)) → AreHeldUp plan n told → AllAre told
  held_up plan zero told each none = are_none told none
  held_up plan (suc n) told each (front, last, holder, is, held, trial) = are_both told front last is (held_up plan n front each held) (tried plan last (Err (says.Busy holder)) each trial)

  made_as : (tries : Tries) (plan : Plan) (told : Heard) (made : Result Fate Reply) → ((call : TableCall) → Contains plan.calls call → P (Table call)) → IsMade tries plan told made → AllAre told
  made_as tries plan told made each (held, front, last, is, holds, trial, allows) = are_both told front last is (held_up plan held front each holds) (tried plan last made each trial)

  worked : (tries : Tries) (plans : List Plan) (told : Heard) (fates : List Fate) (stopped : Option Reply) → ((plan : Plan) → Contains plans plan → (call : TableCall) → Contains plan.calls call → P (Table call)) → Works tries plans told fates stopped → AllAre told
  worked tries [] told [] stopped each (none, is) = are_none told none
  worked tries [] told (fate ∷ fates) stopped each never = absurd never
  worked tries (plan ∷ plans) told [] stopped each (reply, is, made) = made_as tries plan told (Err reply) (each plan (Contains-append_left (plan ∷ []) plans plan (one_here plan))) made
  worked tries (plan ∷ plans) told (fate ∷ fates) stopped each (front, back, is, made, works) = are_both told front back is
      (made_as tries plan front (Ok fate) (each plan (Contains-append_left (plan ∷ []) plans plan (one_here plan))) made)
      (worked tries plans back fates stopped (λ other there. each other (Contains-append_right (plan ∷ []) plans other there)) works)

  in_drop : (n : ℕ) (plans : List Plan) (plan : Plan) → Contains (drop n plans) plan → Contains plans plan
  in_drop zero [] plan there = there
  in_drop zero (first ∷ plans) plan there = there
  in_drop (suc n) [] plan there = there
  in_drop (suc n) (first ∷ plans) plan there = Contains-append_right (first ∷ []) plans plan (in_drop n plans plan there)

  pub all_worked : (tries : Tries) (plans : List Plan) (told : Heard) (fates : List Fate) (stopped : Option Reply) → ((plan : Plan) → Contains plans plan → (call : TableCall) → Contains plan.calls call → P (Table call)) → IsWork tries plans told fates stopped → AllAre told
  all_worked tries plans told fates stopped each (inl works) = worked tries plans told fates stopped each works
  all_worked tries plans told fates stopped each (inr (front, back, early, late, holder, is, are, first, second)) = are_both told front back is
      (worked tries plans front early (Some (says.Busy holder)) each first)
      (worked NoLimit (drop (length early) plans) back late stopped (λ plan there. each plan (in_drop (length early) plans plan there)) second)

-- a call of one of the plans is among the calls of all
abbrev pub calls_in : List Plan → List TableCall
calls_in plans = flat_map (λ (plan : Plan). plan.calls) plans

in_plans : (plans : List Plan) (plan : Plan) (call : TableCall) → Contains plans plan → Contains plan.calls call → Contains (calls_in plans) call
in_plans [] plan call there its = absurd (omega (arith, there.1))
in_plans (first ∷ plans) plan call there its = ⊎_elim
    (λ here. ⊎_elim (λ none. absurd (omega (arith, none.1)))
    (λ same. Contains-append_left first.calls (calls_in plans) call (subst (λ (p : Plan). Contains p.calls call) (sym same) its)) (Contains-push_cases [] first plan here))
    (λ behind. Contains-append_right first.calls (calls_in plans) call (in_plans plans plan call behind its)) (Contains-append_cases (first ∷ []) plans plan there)

-- a call that locks a stripe is one on a table
on_table : (names : List (List ℕ)) (call : Call) (t : ℕ) (asked : Mode) → locks names call t asked ≡ true → (its : TableCall) × (call ≡ Table its)
on_table names (Table its) t asked e = (its, refl)
on_table names Begin t asked e = absurd (false≢true e)
on_table names (Control control) t asked e = absurd (false≢true e)

-- it touches it
touched : (names : List (List ℕ)) (call : Call) (its : TableCall) (t : ℕ) (asked : Mode) → call ≡ Table its → locks names call t asked ≡ true → touches names its t asked ≡ true
touched names call its t asked is e = (and_parts (has_table names its) (touches names its t asked) (subst (λ (c : Call). locks names c t asked ≡ true) is e)).1

-- and if a caller was told of it, it is one of its plans'
pub planned_by : (names : List (List ℕ)) (tries : Tries) (plans : List Plan) (told : Heard) (fates : List Fate) (stopped : Option Reply) → IsWork tries plans told fates stopped → (entry : Call × Reply) → Contains told entry
    → (t : ℕ) (asked : Mode) → locks names entry.0 t asked ≡ true → (its : TableCall) × (entry.0 ≡ Table its) × Contains (calls_in plans) its
planned_by names tries plans told fates stopped work entry there t asked lock = all_worked (λ (call : Call). (t : ℕ) (asked : Mode) → locks names call t asked ≡ true → (its : TableCall) × (call ≡ Table its) × Contains (calls_in plans) its)
    (λ t asked e. absurd (false≢true e)) (λ t asked e. absurd (false≢true e)) (λ t asked e. absurd (false≢true e)) (λ t asked e. absurd (false≢true e)) (λ t asked e. absurd (false≢true e)) tries plans told fates stopped
    (λ plan has call its t asked e. (call, refl, in_plans plans plan call has its)) work entry there t asked lock

or_right : (a b : Bool) → b ≡ true → (a || b) ≡ true
or_right true b e = refl
or_right false b e = e

-- two calls that touch a stripe, the second in a mode that refuses the first
clashing : (names : List (List ℕ)) (call its : TableCall) (t : ℕ) (asked other : Mode) → touches names call t asked ≡ true → touches names its t other ≡ true → IsUpTo (against asked) other → clash (touches names call t) (touches names its t) ≡ true
clashing names call its t mode.Shared other reads touch up =
    let writes : touches names its t mode.Exclusive ≡ true = ap (touches names its t) (sym up) ∙ touch in
    second (touches names call t mode.Exclusive) (touches names call t mode.Shared) (touches names its t mode.Exclusive) (touches names its t mode.Shared) reads writes
  where
    second : (cw cr iw ir : Bool) → cr ≡ true → iw ≡ true → ((cw && (ir || iw)) || ((cr || cw) && iw)) ≡ true
    second true true true true a b = refl
    second true true true false a b = refl
    second false true true true a b = refl
    second false true true false a b = refl
    second cw false iw ir a b = absurd (false≢true a)
    second cw true false ir a b = absurd (false≢true b)
clashing names call its t mode.Exclusive other writes touch up = first (touches names call t mode.Exclusive) (touches names call t mode.Shared) (touches names its t mode.Exclusive) (touches names its t mode.Shared) writes (any other touch)
  where
    any : (other : Mode) → touches names its t other ≡ true → (touches names its t mode.Shared || touches names its t mode.Exclusive) ≡ true
    any mode.Shared e = ap (λ b. b || touches names its t mode.Exclusive) e
    any mode.Exclusive e = or_right (touches names its t mode.Shared) (touches names its t mode.Exclusive) e

    first : (cw cr iw ir : Bool) → cw ≡ true → (ir || iw) ≡ true → ((cw && (ir || iw)) || ((cr || cw) && iw)) ≡ true
    first false cr iw ir a b = absurd (false≢true a)
    first true cr iw true a b = refl
    first true cr true false a b = refl
    first true cr false false a b = absurd (false≢true b)

-- the mode that a step asked for
asked_up : (asked : Mode) (t : ℕ) (step : Met) (other : Mode) → AsksFor asked t step → IsUpTo step.asked other → IsUpTo asked other
asked_up mode.Shared t step other asks up = tt
asked_up mode.Exclusive t step other asks up = subst (λ m. IsUpTo m other) asks.1 up

asked_at : (asked : Mode) (t : ℕ) (step : Met) → AsksFor asked t step → step.stripe ≡ t
asked_at mode.Shared t step asks = asks
asked_at mode.Exclusive t step asks = asks.0

module _ {C : Type 0} where
  met_at : (met : ℕ → List Met) (passes : List (PassView C)) (i : ℕ) (p : PassView C) → AreMet met passes → i < length passes → (get_or passes i p).known.met ≡ met (get_or passes i p).known.number
  met_at met [] i p a within = absurd (omega arith)
  met_at met (q ∷ passes) zero p a within = a.0
  met_at met (q ∷ passes) (suc i) p a within = met_at met passes i p a.1 (omega arith)

  -- why a caller was told `Busy`, from what all passes asked for and what each caller was told
  pub causes_of : (callers : ℕ) (names : List (List ℕ)) (plans : ℕ → List Plan) (tries : Tries) (passes : List (PassView C)) (p : PassView C) (told : (k : ℕ) → k < callers → Heard) (fates : ℕ → List Fate) (stopped : ℕ → Option Reply) → HaveAsked callers passes → callers ≤ length passes
      → ((k : ℕ) → k < callers → (get_or passes k p).known.number ≡ k) → ((k : ℕ) (l : k < callers) → IsToldOf names k (told k l) (get_or passes k p).known.met) → ((k : ℕ) (l : k < callers) → IsWork tries (plans k) (told k l) (fates k) (stopped k))
      → (k : ℕ) (within : k < callers) → HaveCauses callers names plans k (told k within)
  causes_of callers names plans tries passes p told fates stopped asked many numbers tells works k within call h there =
      let hit = (tells k within).hits call h there in
      let mine : (i : ℕ) → i < callers → (get_or passes i p).known.met ≡ asked.met i = (λ i l. met_at asked.met passes i p asked.each (omega arith) ∙ ap asked.met (numbers i l)) in
      let here : Contains (asked.met k) hit.step = subst (λ (ms : List Met). Contains ms hit.step) (mine k within) hit.there in
      let his : HasAsked (against hit.asked) hit.step.stripe (asked.met h) = refused_caused hit.asked hit.step.found k h asked.met hit.step refl (asked.caused k hit.step here) hit.why in
      let among : h < callers = dite (dec_le callers h)
      (λ (far : callers ≤ h). none_here his.0 (subst (λ (ms : List Met). Contains ms his.0) (asked.strangers h far) his.1))
      (λ (near : ¬ (callers ≤ h)). omega arith) in
      let one = (tells h among).named his.0 (subst (λ (ms : List Met). Contains ms his.0) (sym (mine h among)) his.1) in
      let entry = one.0 in
      let step = one.2 in
      let place = asked_at (against hit.asked) hit.step.stripe his.0 his.2 in
      let lock : locks names entry.0 hit.step.stripe step.0 ≡ true = subst (λ t. locks names entry.0 t step.0 ≡ true) place step.1 in
      let its = planned_by names tries (plans h) (told h among) (fates h) (stopped h) (works h among) entry one.1 hit.step.stripe step.0 lock in
      let made = on_table names call hit.step.stripe hit.asked hit.locks_it in (
        made.0,
        made.1,
        record {
          among = among;
          other = other hit.asked hit.step.found hit.why;
          its = its.0;
          planned = its.2;
          stripe = hit.step.stripe;
          clashes = clashing names made.0 its.0 hit.step.stripe hit.asked step.0 (touched names call made.0 hit.step.stripe hit.asked made.1 hit.locks_it)
              (touched names entry.0 its.0 hit.step.stripe step.0 its.1 lock) (asked_up (against hit.asked) hit.step.stripe his.0 step.0 his.2 step.2);
        },
      )
    where
      other : (asked : Mode) (found : ℕ) → Refuses asked found k h → h ≢ k
      other mode.Shared found why = why.other
      other mode.Exclusive found why = why.other
