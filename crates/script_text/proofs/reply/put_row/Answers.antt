use Rattle.std.proofs.Common.{ap, refl}
use Rattle.std.specs.Fmt.{decimal}
use Rattle.texts.proofs.Appending.{same_text}
use Rattle.script_text.proofs.ReplyLemmas.{row_pieces}
use Rattle.script_text.proofs.reply.put_row.Goals as goal

pub returns : goal.returns
returns g c =
    same_text (row_pieces c.args.caller c.args.key c.args.value.now _ _ _ (ap decimal c.from.ensures) refl c.as_bytes.ensures.text)
    c.put_pieces.ensures
