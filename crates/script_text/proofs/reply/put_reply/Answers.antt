use Rattle.std.proofs.Common.{[], refl, sym, ap, ◌∙◌}
use Rattle.std.proofs.lemmas.List.{append-nil}
use Rattle.std.specs.List.{flat_map}
use Rattle.texts.proofs.Appending.{same_text, all_of, and_then, cut_there}
use Rattle.script_text.specs.Replies.{row_lines}
use Rattle.script_text.proofs.ReplyLemmas.{row_line, reply_lines, no_rows}
use Rattle.script_text.proofs.reply.put_reply.Goals as goal

pub returns-in_err-put_told : goal.returns-in_err-put_told
returns-in_err-put_told g c =
    same_text (reply_lines c.args.caller c.args.reply.now _ refl) (cut_there c.from_residual.result _ c.from_residual.ensures.0 c.in_err-put_told.ensures)

pub returns-in-Listed : goal.returns-in-Listed
returns-in-Listed g c =
    let rows = ap (flat_map (row_line c.args.caller)) c.as_slice.ensures ∙ ap (row_lines c.args.caller) (sym c.in-Listed.is) in
    same_text (reply_lines c.args.caller c.args.reply.now _ rows) (and_then {next = flat_map (row_line c.args.caller) c.as_slice.result.now} (all_of c.in_ok-put_told.ensures) c.put_rows.ensures)

pub returns-in_default : goal.returns-in_default
returns-in_default g c =
    same_text (sym (append-nil _) ∙ reply_lines c.args.caller c.args.reply.now [] (sym (no_rows c.args.caller c.args.reply.now c.in_default.not-Listed))) c.in_ok-put_told.ensures
