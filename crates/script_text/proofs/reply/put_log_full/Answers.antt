use Rattle.std.proofs.Common.{ap}
use Rattle.std.specs.Fmt.{decimal}
use Rattle.texts.proofs.Appending.{same_text}
use Rattle.script_text.proofs.ReplyLemmas.{log_full_pieces}
use Rattle.script_text.proofs.reply.put_log_full.Goals as goal

pub returns : goal.returns
returns g c =
    same_text (log_full_pieces c.args.logger c.args.held c.args.needed _ _ _ (ap decimal c.from.ensures) (ap decimal c.from-2.ensures) (ap decimal c.from-3.ensures))
    c.put_pieces.ensures
