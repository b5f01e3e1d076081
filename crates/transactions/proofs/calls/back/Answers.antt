use Rattle.std.proofs.Common.{◌≡◌, false, refl, sym, subst, ℕ}
use Rattle.history.specs.declared.call.Call.TheVariants.{Table}
use Rattle.history.specs.declared.call.TableCall.TheVariants.{Back}
use Rattle.history.specs.declared.call.Reply.{Reply}
use Rattle.history.specs.declared.call.Reply.TheVariants.{Fine}
use Rattle.caller_steps.specs.Core.{Steps}
use Rattle.transactions.proofs.Leaving.{is_answer, stays_one, keeps_one}
use Rattle.transactions.proofs.calls.back.Goals as goal

back_none : (save : ℕ) (reply : Reply) → (reply ≡ Fine → ⊥) → is_answer (Table (Back save)) reply ≡ false
back_none save Fine fine = absurd (fine refl)
back_none save reply fine = refl

pub returns-in-Fine : goal.returns-in-Fine
returns-in-Fine g c =
    let old = g.C.Core.view c.args.core.now in
    let new = g.C.Core.view c.step.new.self in
    let call = Table (Back c.args.save) in
    let reply = Fine in
    let steps = c.in-Fine.ensures.steps in
    record {
      steps = steps;
      stays = λ told. stays_one c.args.caller old new call reply refl (c.prefix_law.ensures.step c.args.core.now c.step.new.self c.args.caller call reply told (c.requires.sound told) steps) (steps.step told);
      within = λ told. c.what_a_call_is.ensures.within c.args.core.now c.step.new.self c.args.caller call reply told refl steps;
      ok = λ told. (steps.moves.own refl).0;
      err = λ told. tt;
      refused = λ told. tt;
    }

pub returns-in_default : goal.returns-in_default
returns-in_default g c =
    let old = g.C.Core.view c.args.core.now in
    let new = g.C.Core.view c.step.new.self in
    let call = Table (Back c.args.save) in
    let steps = c.step.ensures.steps in
    let as_told = subst (λ (reply : Reply). Steps g.C.Core.tells c.args.caller call old new reply) (sym c.from.ensures.1) steps in
    record {
      steps = as_told;
      stays = λ told. stays_one c.args.caller old new call c.step.result refl (c.prefix_law.ensures.step c.args.core.now c.step.new.self c.args.caller call c.step.result told (c.requires.sound told) steps) (steps.step told);
      within = λ told. c.what_a_call_is.ensures.within c.args.core.now c.step.new.self c.args.caller call c.step.result told refl steps;
      ok = λ told. tt;
      err = λ told. keeps_one c.args.caller old new call c.step.result refl (back_none c.args.save c.step.result c.in_default.not-Fine) (steps.step told);
      refused = λ told. c.what_a_call_is.ensures.refused c.args.core.now c.step.new.self c.args.caller call c.from.result told as_told;
    }
