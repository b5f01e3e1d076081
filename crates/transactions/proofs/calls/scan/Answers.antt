use Rattle.std.proofs.Common.{◌≡◌, false, refl, sym, subst, ℕ, List}
use Rattle.history.specs.Writes.{Row}
use Rattle.history.specs.declared.call.Call.TheVariants.{Table}
use Rattle.history.specs.declared.call.TableCall.TheVariants.{Scan}
use Rattle.history.specs.declared.call.Reply.{Reply}
use Rattle.history.specs.declared.call.Reply.TheVariants.{Listed}
use Rattle.caller_steps.specs.Core.{Steps}
use Rattle.transactions.proofs.Leaving.{is_answer, stays_one, keeps_one}
use Rattle.transactions.proofs.calls.scan.Goals as goal

scan_none : (name : List ℕ) (low high : ℕ) (reply : Reply) → ((rows : List Row) → reply ≡ Listed rows → ⊥) → is_answer (Table (Scan name low high)) reply ≡ false
scan_none name low high (Listed rows) listed = absurd (listed rows refl)
scan_none name low high reply listed = refl

pub returns-in-Listed : goal.returns-in-Listed
returns-in-Listed g c =
    let old = g.C.Core.view c.args.core.now in
    let new = g.C.Core.view c.step.new.self in
    let call = Table (Scan c.args.table c.args.low c.args.high) in
    let reply = Listed c.in-Listed.rows in
    let steps = c.in-Listed.ensures.steps in
    record {
      steps = steps;
      stays = λ told. stays_one c.args.caller old new call reply refl (c.prefix_law.ensures.step c.args.core.now c.step.new.self c.args.caller call reply told (c.requires.sound told) steps) (steps.step told);
      within = λ told. c.what_a_call_is.ensures.within c.args.core.now c.step.new.self c.args.caller call reply told refl steps;
      ok = λ told. (steps.moves.own refl).0;
      err = λ told. tt;
      refused = λ told. tt;
    }

pub returns-in_default : goal.returns-in_default
returns-in_default g c =
    let old = g.C.Core.view c.args.core.now in
    let new = g.C.Core.view c.step.new.self in
    let call = Table (Scan c.args.table c.args.low c.args.high) in
    let steps = c.step.ensures.steps in
    let as_told = subst (λ (reply : Reply). Steps g.C.Core.tells c.args.caller call old new reply) (sym c.from.ensures.1) steps in
    record {
      steps = as_told;
      stays = λ told. stays_one c.args.caller old new call c.step.result refl (c.prefix_law.ensures.step c.args.core.now c.step.new.self c.args.caller call c.step.result told (c.requires.sound told) steps) (steps.step told);
      within = λ told. c.what_a_call_is.ensures.within c.args.core.now c.step.new.self c.args.caller call c.step.result told refl steps;
      ok = λ told. tt;
      err = λ told. keeps_one c.args.caller old new call c.step.result refl (scan_none c.args.table c.args.low c.args.high c.step.result c.in_default.not-Listed) (steps.step told);
      refused = λ told. c.what_a_call_is.ensures.refused c.args.core.now c.step.new.self c.args.caller call c.from.result told as_told;
    }
