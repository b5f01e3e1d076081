use Rattle.std.proofs.Common.{◌≡◌, false, refl, sym, subst}
use Rattle.history.specs.declared.call.Call.TheVariants.{Control}
use Rattle.history.specs.declared.call.Control.TheVariants.{Abort}
use Rattle.history.specs.declared.call.Reply.{Reply}
use Rattle.history.specs.declared.call.Reply.TheVariants.{Fine}
use Rattle.caller_steps.specs.Core.{Steps}
use Rattle.transactions.proofs.Leaving.{is_answer, stays_one, keeps_one}
use Rattle.transactions.proofs.calls.abort.Goals as goal

abort_none : (reply : Reply) → (reply ≡ Fine → ⊥) → is_answer (Control Abort) reply ≡ false
abort_none Fine fine = absurd (fine refl)
abort_none reply fine = refl

pub returns-in-Fine : goal.returns-in-Fine
returns-in-Fine g c =
    let old = g.C.Core.view c.args.core.now in
    let new = g.C.Core.view c.step.new.self in
    let call = Control Abort in
    let steps = c.in-Fine.ensures.steps in
    record {
      steps = steps;
      stays = λ told. stays_one c.args.caller old new call Fine refl (c.prefix_law.ensures.step c.args.core.now c.step.new.self c.args.caller call Fine told (c.requires.sound told) steps) (steps.step told);
      ok = λ told. (steps.moves.own refl).0;
      err = λ told. tt;
      refused = λ told. tt;
    }

pub returns-in_default : goal.returns-in_default
returns-in_default g c =
    let old = g.C.Core.view c.args.core.now in
    let new = g.C.Core.view c.step.new.self in
    let call = Control Abort in
    let steps = c.step.ensures.steps in
    let as_told = subst (λ (reply : Reply). Steps g.C.Core.tells c.args.caller call old new reply) (sym c.from.ensures.1) steps in
    record {
      steps = as_told;
      stays = λ told. stays_one c.args.caller old new call c.step.result refl (c.prefix_law.ensures.step c.args.core.now c.step.new.self c.args.caller call c.step.result told (c.requires.sound told) steps) (steps.step told);
      ok = λ told. tt;
      err = λ told. keeps_one c.args.caller old new call c.step.result refl (abort_none c.step.result c.in_default.not-Fine) (steps.step told);
      refused = λ told. c.what_a_call_is.ensures.refused c.args.core.now c.step.new.self c.args.caller call c.from.result told as_told;
    }
