use Rattle.std.proofs.Common.{Err, sym, ◌∙◌}
use Rattle.history.specs.declared.call.Call.TheVariants.{Control}
use Rattle.history.specs.declared.call.Control.TheVariants.{Abort}
use Rattle.caller_steps.specs.Fate.{is_refusal}
use Rattle.caller_work.specs.Tries.{refusal_outcome}
use Rattle.caller_work.proofs.Adding.{adds_none, adds_one}
use Rattle.caller_work.proofs.TriesLemmas.{gives_last, gives_aborted, pick_true, pick_false}
use Rattle.caller_work.proofs.transaction.give_up.Goals as goal

pub returns-then-is_last : goal.returns-then-is_last
returns-then-is_last g c = adds_none _ _ (gives_last c.args.reply (sym c.if-is_last.ensures))

pub returns-then-is_refusal : goal.returns-then-is_refusal
returns-then-is_refusal g c =
    let e = c.call_wait-answer.ensures in
    let answer = c.call_wait-answer.result in
    adds_one _ _ (Control Abort) answer e.same e.told e.table e.asked e.busy _
    (gives_aborted c.args.reply answer _ (sym c.if-is_last.ensures) (pick_true (is_refusal answer) (Err answer) (refusal_outcome c.args.reply) (sym c.if-is_refusal.ensures)))

pub returns : goal.returns
returns g c =
    let e = c.call_wait-answer.ensures in
    let answer = c.call_wait-answer.result in
    adds_one _ _ (Control Abort) answer e.same e.told e.table e.asked e.busy _
    (gives_aborted c.args.reply answer _ (sym c.if-is_last.ensures) (c.refusal_outcome.ensures ∙ pick_false (is_refusal answer) (Err answer) (refusal_outcome c.args.reply) (sym c.if-is_refusal.ensures)))
