use Rattle.std.proofs.Common.{ap, refl}
use Rattle.std.specs.Fmt.{decimal}
use Rattle.texts.proofs.Appending.{same_text}
use Rattle.script_text.proofs.ReplyLemmas.{rows_pieces}
use Rattle.script_text.proofs.reply.put_rows_head.Goals as goal

pub returns : goal.returns
returns g c = same_text (rows_pieces c.args.caller c.args.count _ _ (ap decimal c.from.ensures) refl) c.put_pieces.ensures
