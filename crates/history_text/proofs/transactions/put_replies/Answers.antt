use Rattle.std.proofs.Common.{List, arith, subst, sym}
use Rattle.history.specs.declared.call.TableCall.{TableCall}
use Rattle.history.specs.declared.call.Reply.{Reply}
use Rattle.history.specs.Told.{told_reply}
use Rattle.texts.proofs.Appending.{all_of}
use Rattle.script_text.proofs.LeftPieces.{Left, all_left, one_less, cut_left, none_left}
use Rattle.history_text.proofs.HistoryLines.{kept_lines}
use Rattle.history_text.proofs.transactions.put_replies.Goals as goal

pub loop-told-init : goal.loop-told-init
loop-told-init g c =
    let line = kept_lines c.args.caller in
    let out = g.T.TextOut.view c.args.out.now in
    subst (λ (calls : List (TableCall × Reply)). Left line g.T.TextOut.tells out out c.args.calls.now calls) (sym c.entries-left.ensures) (all_left line c.args.calls.now)

pub returns-in_err-put_kept : goal.returns-in_err-put_kept
returns-in_err-put_kept g c =
    cut_left (kept_lines c.args.caller) (c.in-Some.ensures.0, told_reply c.in-Some.told) c.in-Some.rest c.loop-told.left c.from_residual.result c.in-Some.ensures.1
    c.from_residual.ensures.0 c.loop-told.invariant c.in_err-put_kept.ensures

pub loop-told-preserved : goal.loop-told-preserved
loop-told-preserved g c =
    one_less (kept_lines c.args.caller) (c.in-Some.ensures.0, told_reply c.in-Some.told) c.in-Some.rest c.loop-told.left c.in-Some.ensures.1 c.loop-told.invariant (all_of c.in_ok-put_kept.ensures)

pub loop-told-preserved-in_ok-put_kept : goal.loop-told-preserved-in_ok-put_kept
loop-told-preserved-in_ok-put_kept g c =
    one_less (kept_lines c.args.caller) (c.in-Some.ensures.0, told_reply c.in-Some.told) c.in-Some.rest c.loop-told.left c.in-Some.ensures.1 c.loop-told.invariant (all_of c.in_ok-put_kept.ensures)

pub loop-told-preserved-in_ok-put_kept-2 : goal.loop-told-preserved-in_ok-put_kept-2
loop-told-preserved-in_ok-put_kept-2 g c =
    one_less (kept_lines c.args.caller) (c.in-Some.ensures.0, told_reply c.in-Some.told) c.in-Some.rest c.loop-told.left c.in-Some.ensures.1 c.loop-told.invariant (all_of c.in_ok-put_kept.ensures)

pub returns : goal.returns
returns g c =
    let all = none_left (kept_lines c.args.caller) c.loop-told.left c.in_default.ensures c.loop-told.invariant in
    record { whole = all.whole; part = tt; cause = record { later = omega (arith, all.kept); failed = tt; kept = all.kept } }
