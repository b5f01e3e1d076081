use Rattle.std.proofs.Common.{refl, ap, ◌∙◌, sym, subst}
use Rattle.history.specs.declared.call.Call.{Call}
use Rattle.mars_manager.specs.Pass.{PassView, names_of, takes_of}
use Rattle.mars_manager.specs.Locks.{HasReadied}
use Rattle.mars_manager.proofs.Making.{readied, unreadied, no_locks, unasked, if_ok}
use Rattle.mars_manager.proofs.Asking.{meets_none, up_still}
use Rattle.mars_manager.proofs.mars.Mars.ready.Goals as goal

pub returns-in-Table-clause-held : goal.returns-in-Table-clause-held
returns-in-Table-clause-held g c =
    let live = ap (λ (p : PassView g.row.C.Denot). takes_of p.known) (sym c.pass.view_is) ∙ c.pass.invariant.takes_is ∙ c.if-pass.true in
    if_ok _ _ c.lock_for.result (λ _ h. subst (λ (call : Call). HasReadied call c.args.pass.now.known c.lock_for.new.pass.known) (sym c.in-Table.is) (readied _ c.args.pass.now.known c.lock_for.new.pass.known c.number.ensures.stands.settled h live)) c.lock_for.ensures.held

pub returns-in_default : goal.returns-in_default
returns-in_default g c =
    let live = ap (λ (p : PassView g.row.C.Denot). takes_of p.known) (sym c.pass.view_is) ∙ c.pass.invariant.takes_is ∙ c.if-pass.true in
    record {
      table = refl;
      held = readied c.args.call.now c.args.pass.now.known c.args.pass.now.known c.number.ensures.stands.settled (unasked c.args.call.now c.args.pass.now.known (no_locks (names_of c.args.pass.now.known) c.args.call.now c.in_default.not-Table)) live;
      busy = tt;
      steps = meets_none _ _ _ refl;
      rising = up_still _ _ refl;
    }

pub returns-clause-held : goal.returns-clause-held
returns-clause-held g c =
    let dead = ap (λ (p : PassView g.row.C.Denot). takes_of p.known) (sym c.pass.view_is) ∙ c.pass.invariant.takes_is ∙ c.if-pass.false in
    unreadied c.args.call.now c.args.pass.now.known c.number.ensures.stands.settled dead

pub returns-clause-rising : goal.returns-clause-rising
returns-clause-rising g c = up_still _ _ refl
