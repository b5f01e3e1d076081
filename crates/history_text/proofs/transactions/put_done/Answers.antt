use Rattle.texts.proofs.Appending.{same_text, all_of, and_then, cut_there}
use Rattle.history_text.proofs.HistoryLines.{done_pieces}
use Rattle.history_text.proofs.transactions.put_done.Goals as goal

pub returns-in_err-put_head : goal.returns-in_err-put_head
returns-in_err-put_head g c =
    same_text (done_pieces c.args.done.now.at c.args.done.now.caller _) (cut_there c.from_residual.result _ c.from_residual.ensures.0 c.in_err-put_head.ensures)

pub returns : goal.returns
returns g c = same_text (done_pieces c.args.done.now.at c.args.done.now.caller _) (and_then (all_of c.in_ok-put_head.ensures) c.put_replies.ensures)
