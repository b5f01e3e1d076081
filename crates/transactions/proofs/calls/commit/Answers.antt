use Rattle.std.proofs.Common.{◌≡◌, ℕ, false, refl, sym, subst}
use Rattle.history.specs.declared.call.Call.TheVariants.{Control}
use Rattle.history.specs.declared.call.Control.TheVariants.{Commit}
use Rattle.history.specs.declared.call.Reply.{Reply}
use Rattle.history.specs.declared.call.Reply.TheVariants.{Committed}
use Rattle.caller_steps.specs.Core.{Steps}
use Rattle.caller_steps.specs.Fate.{is_committed}
use Rattle.transactions.proofs.Committing.{offers, commits, as_it_was, may_doubt, may_end, may_grow}
use Rattle.transactions.proofs.calls.commit.Goals as goal

commit_none : (reply : Reply) → ((at : ℕ) → reply ≡ Committed at → ⊥) → is_committed reply ≡ false
commit_none (Committed at) none = absurd (none at refl)
commit_none reply none = refl

pub returns-in-Committed : goal.returns-in-Committed
returns-in-Committed g c =
    let old = g.C.Core.view c.args.core.now in
    let new = g.C.Core.view c.step.new.self in
    let caller = c.args.caller in
    let reply = Committed c.in-Committed.at in
    let steps = c.in-Committed.ensures.steps in
    record {
      steps = steps;
      goes_on = λ told. c.prefix_law.ensures.step c.args.core.now c.step.new.self caller (Control Commit) reply told (c.requires.sound told) steps;
      ok = λ told. commits old new caller reply (steps.step told) refl;
      err = λ told. tt;
      refused = λ told. tt;
      doubt = λ told. tt;
      live = λ told. tt;
      offers = λ told. offers old new caller reply (steps.step told);
      grows = λ told. may_grow old new caller reply (steps.step told) (c.requires.sound told);
    }

pub returns-in_default : goal.returns-in_default
returns-in_default g c =
    let old = g.C.Core.view c.args.core.now in
    let new = g.C.Core.view c.step.new.self in
    let caller = c.args.caller in
    let reply = c.step.result in
    let steps = c.step.ensures.steps in
    let none = commit_none reply c.in_default.not-Committed in
    let as_told = subst (λ (reply : Reply). Steps g.C.Core.tells caller (Control Commit) old new reply) (sym c.from.ensures.1) steps in
    record {
      steps = as_told;
      goes_on = λ told. c.prefix_law.ensures.step c.args.core.now c.step.new.self caller (Control Commit) reply told (c.requires.sound told) steps;
      ok = λ told. tt;
      err = λ told. as_it_was old new caller reply (steps.step told) none;
      refused = λ told. c.what_a_call_is.ensures.refused c.args.core.now c.step.new.self caller (Control Commit) c.from.result told as_told;
      doubt = λ told. may_doubt old new caller reply (steps.step told) c.from.result c.from.ensures.0 none;
      live = λ told. may_end old new caller reply (steps.step told) c.from.result c.from.ensures.0 none;
      offers = λ told. offers old new caller reply (steps.step told);
      grows = λ told. may_grow old new caller reply (steps.step told) (c.requires.sound told);
    }
