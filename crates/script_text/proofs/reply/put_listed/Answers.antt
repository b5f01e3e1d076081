use Rattle.std.proofs.Common.{◌++◌, refl, ◌∙◌}
use Rattle.std.specs.Prelude.{codes}
use Rattle.std.specs.Fmt.{decimal}
use Rattle.history.specs.declared.call.Reply.TheVariants.{Listed}
use Rattle.texts.proofs.Appending.{same_text, all_of, and_then, cut_there}
use Rattle.script_text.specs.Replies.{told_line, row_lines}
use Rattle.script_text.proofs.ReplyLemmas.{reply_lines}
use Rattle.script_text.proofs.reply.put_listed.Goals as goal

pub returns-in_err-put_rows_head : goal.returns-in_err-put_rows_head
returns-in_err-put_rows_head g c =
    same_text ((λ i. told_line c.args.caller (codes "rows " ++ decimal (c.len.ensures i)) ++ row_lines c.args.caller (Listed c.args.rows.now)) ∙ reply_lines c.args.caller (Listed c.args.rows.now) _ refl)
    (cut_there c.from_residual.result (row_lines c.args.caller (Listed c.args.rows.now)) c.from_residual.ensures.0 c.in_err-put_rows_head.ensures)

pub returns : goal.returns
returns g c =
    same_text ((λ i. told_line c.args.caller (codes "rows " ++ decimal (c.len.ensures i)) ++ row_lines c.args.caller (Listed (c.all.ensures i))) ∙ reply_lines c.args.caller (Listed c.args.rows.now) _ refl)
    (and_then (all_of c.in_ok-put_rows_head.ensures) c.put_kept_rows.ensures)
