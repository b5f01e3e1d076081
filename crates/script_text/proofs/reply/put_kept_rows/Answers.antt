use Rattle.std.proofs.Common.{◌∷◌, ◌∙◌, arith}
use Rattle.std.proofs.lemmas.Option.{same_Some}
use Rattle.texts.proofs.Appending.{all_of}
use Rattle.script_text.proofs.LeftPieces.{all_left, one_less, cut_left, none_left}
use Rattle.script_text.proofs.ReplyLemmas.{row_line}
use Rattle.script_text.proofs.reply.put_kept_rows.Goals as goal

pub loop-key-init : goal.loop-key-init
loop-key-init g c = all_left (row_line c.args.caller) c.args.rows

pub returns-in_err-put_row : goal.returns-in_err-put_row
returns-in_err-put_row g c =
    let first = c.in-Some.value-in-Some-1-own.given.0.0 in
    let same = same_Some (c.in-Some.key, c.in-Some.value, c.in-Some.rest) first c.in-Some.value-in-Some-1-own.given.1 in
    cut_left (row_line c.args.caller) (c.in-Some.key, first.1) first.2 c.loop-key.left c.from_residual.result
    (c.in-Some.ensures ∙ (λ i. (c.in-Some.key, (same i).1) ∷ (same i).2)) c.from_residual.ensures.0 c.loop-key.invariant c.in_err-put_row.ensures

pub loop-key-preserved : goal.loop-key-preserved
loop-key-preserved g c =
    let first = c.in-Some.value-in-Some-1-own.given.0.0 in
    let same = same_Some (c.in-Some.key, c.in-Some.value, c.in-Some.rest) first c.in-Some.value-in-Some-1-own.given.1 in
    one_less (row_line c.args.caller) (c.in-Some.key, first.1) first.2 c.loop-key.left
    (c.in-Some.ensures ∙ (λ i. (c.in-Some.key, (same i).1) ∷ (same i).2)) c.loop-key.invariant (all_of c.in_ok-put_row.ensures)

pub returns : goal.returns
returns g c =
    let all = none_left (row_line c.args.caller) c.loop-key.left c.in_default.ensures c.loop-key.invariant in
    record { whole = all.whole; part = tt; cause = record { later = omega (arith, all.kept); failed = tt; kept = all.kept } }
