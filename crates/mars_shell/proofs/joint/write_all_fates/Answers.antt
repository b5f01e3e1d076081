use Rattle.std.proofs.Common.{◌≡◌, refl, ap, sym, ◌∙◌, ◌+◌, ◌++◌, arith, length, drop, slice_index_or, suc, List, ℕ}
use Rattle.std.proofs.lemmas.List.{append-nil}
use Rattle.caller_plans.specs.declared.fate.Fate.{Fate}
use Rattle.history_text.specs.Text.{fate_line, numbered}
use Rattle.mars_shell.proofs.FateTexts.{one_more, nothing_left}
use Rattle.mars_shell.proofs.joint.write_all_fates.Goals as goal

pub loop-caller-init : goal.loop-caller-init
loop-caller-init c = refl

pub loop-caller-preserved : goal.loop-caller-preserved
loop-caller-preserved c =
    ap (λ (text : List ℕ). text ++ numbered (λ caller. numbered (fate_line caller) 1) (c.loop-caller.caller + 1) (drop (c.loop-caller.caller + 1) c.args.fates.now)) (c.in_ok-write_fates.ensures ∙ ap (λ (fates : List Fate). c.loop-caller.text.items ++ numbered (fate_line c.loop-caller.caller) 1 fates) (c.as_slice.ensures ∙ c.index-fates-caller.is))
    ∙ ap (λ (n : ℕ). (c.loop-caller.text.items ++ numbered (fate_line c.loop-caller.caller) 1 (slice_index_or c.args.fates.now c.loop-caller.caller c.index-fates-caller.result)) ++ numbered (λ caller. numbered (fate_line caller) 1) (c.loop-caller.caller + 1) (drop n c.args.fates.now)) (let e : c.loop-caller.caller + 1 ≡ suc c.loop-caller.caller = omega arith in e)
    ∙ one_more c.loop-caller.text.items c.args.fates.now c.loop-caller.caller c.index-fates-caller.result (omega (arith, c.loop-caller-test.true)) ∙ c.loop-caller.invariant

pub returns : goal.returns
returns c =
    let all : c.loop-caller.caller ≡ length c.args.fates.now = omega (arith, c.loop-caller-test.false, c.loop-caller.auto.caller-end) in
    sym (append-nil _) ∙ ap (λ (fates : List (List Fate)). c.loop-caller.text.items ++ numbered (λ caller. numbered (fate_line caller) 1) c.loop-caller.caller fates) (sym (nothing_left c.args.fates.now) ∙ ap (λ (n : ℕ). drop n c.args.fates.now) (sym all))
    ∙ c.loop-caller.invariant
