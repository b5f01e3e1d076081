use Rattle.std.proofs.Common.{ap, refl}
use Rattle.std.specs.Fmt.{decimal}
use Rattle.texts.proofs.Appending.{same_text}
use Rattle.history_text.proofs.HistoryLines.{head_pieces}
use Rattle.history_text.proofs.transactions.put_head.Goals as goal

pub returns : goal.returns
returns g c =
    same_text (head_pieces c.args.done.now.at c.args.done.now.caller _ _ refl (ap decimal c.from.ensures))
    c.put_pieces.ensures
