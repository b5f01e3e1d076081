-- What a worker tells its gate, call by call.
use Rattle.std.proofs.Common.{◌≡◌, ◌+◌, ℕ, suc, append_assoc, List, [], ◌∷◌, ◌++◌, length, Option, Some, None, Result, Ok, Err, inl, inr, true, false, arith, refl, sym, ap, ◌∙◌, subst}
use Rattle.std.proofs.lemmas.List.Elements.{All-head, All-tail}
use Rattle.std.specs.Prelude.{Bool, All, not, if◌then◌else◌}
use Rattle.caller_steps.specs.Run.{Heard}
use Rattle.history.specs.declared.call.Call.{Call}
use Rattle.history.specs.declared.call.TableCall.{TableCall}
use Rattle.history.specs.declared.call.Reply.{Reply}
use Rattle.history.specs.declared.call.Reply.TheVariants as says
use Rattle.std.proofs.lemmas.Bool.{true≢false}
use Rattle.mars_manager.specs.Locks.{steps_of}
use Rattle.caller_steps.specs.Fate.{is_refusal, is_busy}
use Rattle.caller_plans.specs.declared.plan.Plan.{Plan}
use Rattle.caller_plans.specs.declared.plan.PlanEnd.{PlanEnd}
use Rattle.caller_plans.specs.declared.plan.PlanEnd.TheVariants as end
use Rattle.caller_plans.specs.declared.fate.Fate.{Fate}
use Rattle.caller_work.specs.declared.tries.Tries.{Tries}
use Rattle.caller_work.specs.Tries.{IsTry}
use Rattle.caller_work.specs.declared.gate.Place.{Place}
use Rattle.caller_work.specs.declared.gate.Place.TheVariants.{Began, Answered, Ended}
use Rattle.caller_work.specs.Standing.{AreGranted, IsRefused}
use Rattle.caller_work.specs.Telling.{HasGranted, answers, end_places, call_places, try_places, AreTold, IsHeard, AreHeard}
use Rattle.caller_work.proofs.TriesLemmas.{pick_true, pick_false}

free_step : (reply : Reply) → is_refusal reply ≡ false → is_busy reply ≡ false
free_step (says.Busy holder) free = absurd (true≢false free)
free_step reply free = refl

pick_none : (b : Bool) (one : Heard) → b ≡ false → (if not b then one else []) ≡ one
pick_none true one e = absurd (true≢false e)
pick_none false one e = refl

-- a call that was just granted
pub granted_last : (before : Heard) (call : Call) (reply : Reply) (now : Heard) → now ≡ before ++ steps_of ((call, reply) ∷ []) → is_refusal reply ≡ false → HasGranted call now
granted_last before call reply now is free =
    let one : Heard = (call, reply) ∷ [] in
    (before, reply, is ∙ ap (λ (l : Heard). before ++ l) (pick_none (is_busy reply) one (free_step reply free)), free)

module _ (caller nth : ℕ) where
  -- one more answer
  pub answers_more : (call : ℕ) (told : Heard) (entry : Call × Reply) → answers caller nth call (told ++ entry ∷ []) ≡ answers caller nth call told ++ Answered caller nth (call + length told) ∷ []
  answers_more call [] entry = let e : call ≡ call + 0 = omega arith in ap (λ (n : ℕ). Answered caller nth n ∷ []) e
  answers_more call (first ∷ told) entry =
      let e : call + 1 + length told ≡ call + length (first ∷ told) = omega arith in
      ap (λ (l : List Place). Answered caller nth call ∷ l) (answers_more (call + 1) told entry ∙ ap (λ (n : ℕ). answers caller nth (call + 1) told ++ Answered caller nth n ∷ []) e)

  -- all calls of a plan were granted, and then comes its end
  pub places_granted : (calls : List TableCall) (ends : PlanEnd) (asked last : Heard) (call : ℕ) → AreGranted calls asked
      → call_places caller nth call calls ends (asked ++ last) ≡ answers caller nth call asked ++ end_places caller nth ends last
  places_granted [] ends asked last call is = subst (λ (l : Heard). call_places caller nth call [] ends (l ++ last) ≡ answers caller nth call l ++ end_places caller nth ends last) (sym is) refl
  places_granted (c ∷ calls) ends asked last call (reply, rest, is, free, others) =
      subst (λ (l : Heard). call_places caller nth call (c ∷ calls) ends (l ++ last) ≡ answers caller nth call l ++ end_places caller nth ends last) (sym is)
      (ap (λ (l : List Place). Answered caller nth call ∷ l) (sym (pick_false (is_refusal reply) [] (call_places caller nth (call + 1) calls ends (rest ++ last)) free)
      ∙ places_granted calls ends rest last (call + 1) others))

  -- one of them was refused
  pub places_refused : (calls : List TableCall) (ends : PlanEnd) (refusal : Reply) (asked last : Heard) (call : ℕ) → IsRefused calls refusal asked
      → call_places caller nth call calls ends (asked ++ last) ≡ answers caller nth call asked
  places_refused [] ends refusal asked last call none = absurd none
  places_refused (c ∷ calls) ends refusal asked last call (reply, rest, is, inl (free, others)) =
      subst (λ (l : Heard). call_places caller nth call (c ∷ calls) ends (l ++ last) ≡ answers caller nth call l) (sym is)
      (ap (λ (l : List Place). Answered caller nth call ∷ l) (sym (pick_false (is_refusal reply) [] (call_places caller nth (call + 1) calls ends (rest ++ last)) free)
      ∙ places_refused calls ends refusal rest last (call + 1) others))
  places_refused (c ∷ calls) ends refusal asked last call (reply, rest, is, inr (refused, none, same)) =
      subst (λ (l : Heard). call_places caller nth call (c ∷ calls) ends (l ++ last) ≡ answers caller nth call l) (sym is)
      (ap (λ (l : List Place). Answered caller nth call ∷ l) (sym (pick_true (is_refusal reply) [] (call_places caller nth (call + 1) calls ends (rest ++ last)) refused)
      ∙ ap (λ (l : Heard). answers caller nth (call + 1) l) (sym none)))

  -- a try whose begin was refused, and one whose begin was granted
  pub try_refused : (plan : Plan) (call : Call) (reply : Reply) (told : Heard) → is_refusal reply ≡ true → [] ≡ try_places caller nth plan ((call, reply) ∷ told)
  try_refused plan call reply told refused = pick_true (is_refusal reply) [] (Began caller nth ∷ call_places caller nth 1 plan.calls plan.end told) refused

  pub try_begun : (plan : Plan) (call : Call) (reply : Reply) (told : Heard) (places : List Place) → is_refusal reply ≡ false → places ≡ call_places caller nth 1 plan.calls plan.end told
      → Began caller nth ∷ places ≡ try_places caller nth plan ((call, reply) ∷ told)
  try_begun plan call reply told places free is = ap (λ (l : List Place). Began caller nth ∷ l) is ∙ pick_false (is_refusal reply) [] (Began caller nth ∷ call_places caller nth 1 plan.calls plan.end told) free

  -- nothing is told at another end
  pub end_none : (ends : PlanEnd) (told : Heard) → (ends ≡ end.Offer → ⊥) → [] ≡ end_places caller nth ends told
  end_none end.Offer told other = absurd (other refl)
  end_none end.Commit told other = refl
  end_none end.Abort told other = refl
  end_none end.Unended told other = refl

  -- one more try
  pub told_once_more : (plan : Plan) (n : ℕ) (front last : Heard) (made : Result Fate Reply) (ps qs : List Place) → AreTold caller nth plan n front ps → IsTry plan last made → qs ≡ try_places caller nth plan last
      → AreTold caller nth plan (suc n) (front ++ last) (ps ++ qs)
  told_once_more plan n front last made ps qs before one is = (front, last, made, ps, refl, one, ap (λ (l : List Place). ps ++ l) is, before)

module _ (one caller nth : ℕ) (tries : Tries) (plan : Plan) (plans all : List Plan) where
  -- a plan has ended, and others follow
  pub heard_more : (front back : Heard) (fate : Fate) (fates : List Fate) (stopped : Option Reply) (first others : List Place) → one ≡ caller → all ≡ plan ∷ plans
      → IsHeard one nth tries plan front (Ok fate) first → AreHeard caller (nth + 1) tries plans back fates stopped others → AreHeard caller nth tries all (front ++ back) (fate ∷ fates) stopped (first ++ others)
  heard_more front back fate fates stopped first others same is its behind =
      subst (λ (l : List Plan). AreHeard caller nth tries l (front ++ back) (fate ∷ fates) stopped (first ++ others)) (sym is)
      (front, back, first, others, refl, refl, subst (λ (k : ℕ). IsHeard k nth tries plan front (Ok fate) first) same its, behind)

  -- the worker was stopped in it
  pub heard_stopped : (told : Heard) (reply : Reply) (places : List Place) → one ≡ caller → all ≡ plan ∷ plans → IsHeard one nth tries plan told (Err reply) places → AreHeard caller nth tries all told [] (Some reply) places
  heard_stopped told reply places same is its =
      subst (λ (l : List Plan). AreHeard caller nth tries l told [] (Some reply) places) (sym is) (reply, refl, subst (λ (k : ℕ). IsHeard k nth tries plan told (Err reply) places) same its)

-- none is left
pub heard_none : (caller nth : ℕ) (tries : Tries) (all : List Plan) → all ≡ [] → AreHeard caller nth tries all [] [] None []
heard_none caller nth tries all is = subst (λ (l : List Plan). AreHeard caller nth tries l [] [] None []) (sym is) (refl, refl)

-- of the first plan it was told that it ended
pub heard_first : (caller nth : ℕ) (tries : Tries) (plan : Plan) (plans : List Plan) (told : Heard) (fates : List Fate) (stopped : Option Reply) (places : List Place) → AreHeard caller nth tries (plan ∷ plans) told fates stopped places
    → (before : List Place) × (after : List Place) × (places ≡ before ++ Ended caller nth ∷ after)
heard_first caller nth tries plan plans told [] stopped places heard = (heard.2.2, [], heard.2.4)
heard_first caller nth tries plan plans told (fate ∷ fates) stopped places (front, back, first, others, told_is, places_are, its, behind) =
    (its.2, others, places_are ∙ ap (λ (l : List Place). l ++ others) its.4 ∙ append_assoc its.2 (Ended caller nth ∷ []) others)

pub known_in : (Knows : Place → Type 0) (before after : List Place) (place : Place) → All Knows (before ++ place ∷ after) → Knows place
known_in Knows [] after place all = All-head Knows place after all
known_in Knows (other ∷ before) after place all = known_in Knows before after place (All-tail Knows other (before ++ place ∷ after) all)
