use Rattle.std.proofs.Common.{◌≡◌, List, rules, refl, sym, subst}
use denote.Enum.Bare.{same_true, same_false}
use Rattle.caller_steps.specs.Run.{Heard}
use Rattle.caller_plans.specs.contracts.plan.PlanEnd.{the_type}
use Rattle.caller_plans.specs.declared.plan.PlanEnd.{PlanEnd}
use Rattle.caller_plans.specs.declared.plan.PlanEnd.TheVariants as end
use Rattle.caller_work.specs.declared.gate.Place.{Place}
use Rattle.caller_work.specs.Standing.{Tells}
use Rattle.caller_work.specs.Telling.{end_places}
use Rattle.caller_work.specs.Tries.{Ends}
use Rattle.caller_work.proofs.Adding.{adds_one, tells_quiet}
use Rattle.caller_work.proofs.Places.{end_none}
use Rattle.caller_work.proofs.TriesLemmas.{ends_alone}
use Rattle.caller_work.proofs.transaction.end_as_planned.Goals as goal

pub returns-then-eq : goal.returns-then-eq
returns-then-eq g c =
    let offers : c.args.end ≡ end.Offer = same_true the_type (search rules) _ _ (sym c.if-eq.ensures) in
    let spot = c.args.spot.now in
    subst (λ (e : PlanEnd). Tells (g.G.Gate.told spot.gate.now) c.args.pass.now c.offer.new.pass c.args.told.now.said c.offer.new.told.said (λ (more : Heard) (places : List Place). Ends e more c.offer.result × (places ≡ end_places spot.caller spot.nth e more)))
    (sym offers) c.offer.ensures

pub returns : goal.returns
returns g c =
    let e = c.call_wait.ensures in
    let other = same_false the_type _ _ (sym c.if-eq.ensures) in
    tells_quiet _ _ _ _ (adds_one _ _ _ _ e.same e.told e.table e.asked e.busy _
    (ends_alone c.args.end _ _ other (_, rw c.end_call.ensures refl, c.end_outcome.ensures), end_none c.args.spot.now.caller c.args.spot.now.nth c.args.end _ other))
