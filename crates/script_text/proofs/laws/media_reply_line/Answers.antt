use Rattle.script_text.proofs.ReplyLemmas.{media_line_is}
use Rattle.script_text.proofs.laws.media_reply_line.Goals as goal

pub returns : goal.returns
returns c = media_line_is
