use Rattle.std.proofs.Common.{[], ◌∷◌, ◌++◌, ap}
use Rattle.std.specs.Fmt.{decimal}
use Rattle.texts.proofs.Appending.{same_text, all_of, and_then, cut_there}
use Rattle.script_text.specs.Replies.{reply_text}
use Rattle.script_text.proofs.ReplyLemmas.{told_pieces}
use Rattle.script_text.proofs.reply.put_told.Goals as goal

pub returns-in_err-put_number : goal.returns-in_err-put_number
returns-in_err-put_number g c =
    same_text (told_pieces c.args.caller (reply_text c.args.reply.now) _ (ap decimal c.from.ensures))
    (cut_there c.from_residual.result (32 ∷ (reply_text c.args.reply.now ++ 10 ∷ [])) c.from_residual.ensures.0 c.in_err-put_number.ensures)

pub returns-in_err-put : goal.returns-in_err-put
returns-in_err-put g c =
    same_text (told_pieces c.args.caller (reply_text c.args.reply.now) _ (ap decimal c.from.ensures))
    (and_then (all_of c.in_ok-put_number.ensures) (cut_there c.from_residual-in_err-put.result (reply_text c.args.reply.now ++ 10 ∷ []) c.from_residual-in_err-put.ensures.0 c.in_err-put.ensures))

pub returns-in_err-put_reply_text : goal.returns-in_err-put_reply_text
returns-in_err-put_reply_text g c =
    same_text (told_pieces c.args.caller (reply_text c.args.reply.now) _ (ap decimal c.from.ensures))
    (and_then (all_of c.in_ok-put_number.ensures) (and_then (all_of c.in_ok-put.ensures)
    (cut_there c.from_residual-in_err-put_reply_text.result (10 ∷ []) c.from_residual-in_err-put_reply_text.ensures.0 c.in_err-put_reply_text.ensures)))

pub returns : goal.returns
returns g c =
    same_text (told_pieces c.args.caller (reply_text c.args.reply.now) _ (ap decimal c.from.ensures))
    (and_then (all_of c.in_ok-put_number.ensures) (and_then (all_of c.in_ok-put.ensures) (and_then (all_of c.in_ok-put_reply_text.ensures) c.put-2.ensures)))
