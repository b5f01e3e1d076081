use Rattle.std.proofs.Common.{ℕ, List, sym, ap, ◌∙◌}
use Rattle.history.specs.declared.locks.Mode.TheVariants as mode
use Rattle.mars_manager.specs.Pass.{PassView, names_of}
use Rattle.mars_manager.specs.Locks.{number_asked}
use Rattle.mars_manager.proofs.Asking.{meets_as, step_of, scan_step, locks_get, locks_put, locks_del, scan_there, up_at}
use Rattle.mars_manager.proofs.mars.Mars.lock_for.Goals as goal

pub returns-in-Get-clause-steps : goal.returns-in-Get-clause-steps
returns-in-Get-clause-steps g c =
    let names = ap (λ (p : PassView g.row.C.Denot). names_of p.known) (sym c.pass.view_is) ∙ c.pass.invariant.named in
    meets_as _ _ _ _ (step_of (names_of c.args.pass.now.known) c.args.call.now mode.Shared c.stripe_of.result
    (locks_get (names_of c.args.pass.now.known) c.args.call.now _ c.in-Get.key c.in-Some.table c.stripe_of.result c.in-Get.is (ap (λ (ns : List (List ℕ)). number_asked ns c.args.call.now) names ∙ sym c.in-Some.ensures) c.stripe_of.ensures.stripe))
    c.try_lock.ensures.steps

pub returns-in-Put-clause-steps : goal.returns-in-Put-clause-steps
returns-in-Put-clause-steps g c =
    let names = ap (λ (p : PassView g.row.C.Denot). names_of p.known) (sym c.pass.view_is) ∙ c.pass.invariant.named in
    meets_as _ _ _ _ (step_of (names_of c.args.pass.now.known) c.args.call.now mode.Exclusive c.stripe_of-in-Put.result
    (locks_put (names_of c.args.pass.now.known) c.args.call.now _ c.in-Put.key _ c.in-Some.table c.stripe_of-in-Put.result c.in-Put.is (ap (λ (ns : List (List ℕ)). number_asked ns c.args.call.now) names ∙ sym c.in-Some.ensures) c.stripe_of-in-Put.ensures.stripe))
    c.try_lock-in-Put.ensures.steps

pub returns-in-Del-clause-steps : goal.returns-in-Del-clause-steps
returns-in-Del-clause-steps g c =
    let names = ap (λ (p : PassView g.row.C.Denot). names_of p.known) (sym c.pass.view_is) ∙ c.pass.invariant.named in
    meets_as _ _ _ _ (step_of (names_of c.args.pass.now.known) c.args.call.now mode.Exclusive c.stripe_of-in-Del.result
    (locks_del (names_of c.args.pass.now.known) c.args.call.now _ c.in-Del.key c.in-Some.table c.stripe_of-in-Del.result c.in-Del.is (ap (λ (ns : List (List ℕ)). number_asked ns c.args.call.now) names ∙ sym c.in-Some.ensures) c.stripe_of-in-Del.ensures.stripe))
    c.try_lock-in-Del.ensures.steps

pub returns-in-Scan-clause-steps : goal.returns-in-Scan-clause-steps
returns-in-Scan-clause-steps g c =
    let names = ap (λ (p : PassView g.row.C.Denot). names_of p.known) (sym c.pass.view_is) ∙ c.pass.invariant.named in
    meets_as _ _ _ _ (scan_step (names_of c.args.pass.now.known) c.args.call.now _ c.in-Scan.low c.in-Scan.high c.in-Scan.is
    (scan_there (names_of c.args.pass.now.known) c.args.call.now _ c.in-Scan.low c.in-Scan.high c.in-Some.table c.in-Scan.is (ap (λ (ns : List (List ℕ)). number_asked ns c.args.call.now) names ∙ sym c.in-Some.ensures))) c.lock_all.ensures.steps

pub returns-in-Get-clause-rising : goal.returns-in-Get-clause-rising
returns-in-Get-clause-rising g c = up_at mode.Shared c.stripe_of.result _ _ c.try_lock.ensures.steps

pub returns-in-Put-clause-rising : goal.returns-in-Put-clause-rising
returns-in-Put-clause-rising g c = up_at mode.Exclusive c.stripe_of-in-Put.result _ _ c.try_lock-in-Put.ensures.steps

pub returns-in-Del-clause-rising : goal.returns-in-Del-clause-rising
returns-in-Del-clause-rising g c = up_at mode.Exclusive c.stripe_of-in-Del.result _ _ c.try_lock-in-Del.ensures.steps
