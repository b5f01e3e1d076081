use Rattle.std.proofs.Common.{◌≡◌, [], ◌∷◌, ◌++◌, List, refl, sym, subst}
use Rattle.caller_steps.specs.Run.{Heard}
use Rattle.history.specs.declared.call.Call.TheVariants.{Control}
use Rattle.history.specs.declared.call.Control.TheVariants.{Offer, Settle}
use Rattle.caller_steps.specs.Fate.{is_refusal}
use Rattle.caller_plans.specs.declared.plan.PlanEnd.TheVariants as end
use Rattle.caller_work.specs.declared.gate.Place.{Place}
use Rattle.caller_work.specs.declared.gate.Place.TheVariants.{Offered}
use Rattle.caller_work.specs.Telling.{end_places}
use Rattle.caller_work.specs.Tries.{Ends}
use Rattle.caller_work.proofs.Adding.{adds_one, adds_on, tells_quiet, tells_place}
use Rattle.caller_work.proofs.Places.{granted_last}
use Rattle.caller_work.proofs.TriesLemmas.{ends_refused, ends_settled, pick_true, pick_false}
use Rattle.caller_work.proofs.transaction.offer.Goals as goal

pub returns-then-is_refusal : goal.returns-then-is_refusal
returns-then-is_refusal g c =
    let spot = c.args.spot.now in
    let e = c.call_wait-reply.ensures in
    let reply = c.call_wait-reply.result in
    let refused = sym c.if-is_refusal.ensures in
    tells_quiet _ _ _ _ (adds_one _ _ (Control Offer) reply e.same e.told e.table e.asked e.busy _ (ends_refused end.Offer reply refl refused, pick_true (is_refusal reply) [] (Offered spot.caller spot.nth ∷ []) refused))

pub returns : goal.returns
returns g c =
    let spot = c.args.spot.now in
    let e = c.call_wait-reply.ensures in
    let reply = c.call_wait-reply.result in
    let f = c.call_wait.ensures in
    let answer = c.call_wait.result in
    let made = c.end_outcome.result in
    let granted = sym c.if-is_refusal.ensures in
    let here : Place = Offered spot.caller spot.nth in
    tells_place _ _ _ _ here (λ (l : Heard) (places : List Place). Ends end.Offer l made × (places ≡ end_places spot.caller spot.nth end.Offer l)) c.tell_granted.ensures.notes c.tell_granted.ensures.told
    (adds_on _ _ _ _ _ (λ (l : Heard). Ends end.Offer l made × (here ∷ [] ≡ end_places spot.caller spot.nth end.Offer l)) (adds_one _ _ (Control Offer) reply e.same e.told e.table e.asked e.busy (λ (l : Heard). l ≡ (Control Offer, reply) ∷ []) refl)
    (adds_one _ _ (Control Settle) answer f.same f.told f.table f.asked f.busy (λ (l : Heard). l ≡ (Control Settle, answer) ∷ []) refl)
    (λ xs ys is then. subst (λ (l : Heard). Ends end.Offer l made × (here ∷ [] ≡ end_places spot.caller spot.nth end.Offer l)) (λ i. sym is i ++ sym then i) (
      subst (λ r. Ends end.Offer ((Control Offer, reply) ∷ (Control Settle, answer) ∷ []) r) (sym c.end_outcome.ensures) (ends_settled end.Offer reply answer refl granted),
      pick_false (is_refusal reply) [] (here ∷ []) granted,
    )))

pub tell_granted-requires : goal.tell_granted-requires
tell_granted-requires g c = granted_last _ (Control Offer) c.call_wait-reply.result _ c.call_wait-reply.ensures.told (sym c.if-is_refusal.ensures)
