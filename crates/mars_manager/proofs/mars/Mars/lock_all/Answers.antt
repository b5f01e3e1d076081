use Rattle.std.proofs.Common.{◌<◌, ℕ, refl, ap, ◌∙◌, sym, subst, arith}
use Rattle.history.specs.declared.locks.Mode.TheVariants as mode
use Rattle.mars_manager.specs.declared.view.Known.{Known}
use Rattle.mars_manager.specs.Pass.{PassView}
use Rattle.mars_manager.specs.Locks.{with_holds}
use Rattle.mars_manager.proofs.Knowns.{readable_none, readable_more, refused_after}
use Rattle.mars_manager.specs.declared.view.Met.{Met}
use Rattle.mars_manager.specs.Asked.{IsStepFor, IsReadingBelow}
use Rattle.mars_manager.proofs.Asking.{meets_none, meets_on, meets_as, meets_same, up_none, up_on, up_same}
use Rattle.mars_manager.proofs.mars.Mars.lock_all.Goals as goal

-- a step for a stripe of the loop
reading_at : (t : ℕ) (step : Met) → t < 64 → IsStepFor mode.Shared t step → IsReadingBelow 64 step
reading_at t step l (is, up) = (subst (λ n. n < 64) (sym is) l, up)

pub loop-stripe-init : goal.loop-stripe-init
loop-stripe-init g c = record { table = refl; known = readable_none c.args.pass.now.known; steps = meets_none _ _ _ refl; up = up_none c.args.pass.now.known }

pub loop-stripe-preserved : goal.loop-stripe-preserved
loop-stripe-preserved g c =
    let i = c.loop-stripe.invariant in record {
      table = c.try_lock.ensures.table ∙ i.table;
      known = readable_more c.loop-stripe.stripe c.args.pass.now.known c.loop-stripe.pass.known c.try_lock.new.pass.known (let l = i.known.long in let m = c.number.ensures.stands.long in let t = c.loop-stripe-test.true in omega arith) i.known c.in_default.ensures.held;
      steps = meets_on _ _ _ _ i.steps (meets_as _ _ _ _ (λ step h. reading_at c.loop-stripe.stripe step c.loop-stripe-test.true h) c.try_lock.ensures.steps);
      up = up_on mode.Shared c.loop-stripe.stripe _ _ _ i.up c.try_lock.ensures.steps;
    }

pub returns-in-Err-clause-busy : goal.returns-in-Err-clause-busy
returns-in-Err-clause-busy g c =
    let i = c.loop-stripe.invariant in
    let k = c.args.pass.now.known in
    let k2 = c.try_lock.new.pass.known in
    let hs = ap (λ (p : PassView g.row.C.Denot). p.known.holds) (sym c.pass.view_is) ∙ c.pass.invariant.same in (
      (let t = c.loop-stripe-test.true in omega arith),
      refused_after mode.Shared c.loop-stripe.stripe c.loop-stripe.stripe c.in-Err.way.holder c.args.pass.now.known c.loop-stripe.pass.known c.try_lock.new.pass.known c.restore.new.pass.known i.known c.in-Err.ensures.busy
          (c.restore.ensures.known ∙ ap (λ (xs : _). with_holds xs c.try_lock.new.pass.known) (sym hs)),
    )

pub returns-in-Err-clause-steps : goal.returns-in-Err-clause-steps
returns-in-Err-clause-steps g c =
    meets_same _ _ _ _ _ refl (ap (λ (k : Known g.row.C.Denot). k.met) c.restore.ensures.known)
    (meets_on _ _ _ _ c.loop-stripe.invariant.steps (meets_as _ _ _ _ (λ step h. reading_at c.loop-stripe.stripe step c.loop-stripe-test.true h) c.try_lock.ensures.steps))

pub returns-in-Err-clause-rising : goal.returns-in-Err-clause-rising
returns-in-Err-clause-rising g c =
    up_same _ _ _ (ap (λ (k : Known g.row.C.Denot). k.met) c.restore.ensures.known) (up_on mode.Shared c.loop-stripe.stripe _ _ _ c.loop-stripe.invariant.up c.try_lock.ensures.steps).up

pub returns-clause-rising : goal.returns-clause-rising
returns-clause-rising g c = c.loop-stripe.invariant.up.up
