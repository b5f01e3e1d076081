use Rattle.std.proofs.Common.{◌++◌, sym, ap, ◌∙◌}
use Rattle.std.specs.Prelude.{codes}
use Rattle.std.specs.Fmt.{decimal}
use Rattle.texts.proofs.Appending.{same_text}
use Rattle.script_text.specs.Replies.{reply_text}
use Rattle.script_text.proofs.reply.put_reply_text.Goals as goal

pub returns-in-SlotsFull : goal.returns-in-SlotsFull
returns-in-SlotsFull g c = same_text (ap (λ n. codes "slots full " ++ decimal n) c.from-in-SlotsFull.ensures ∙ sym (ap reply_text c.in-SlotsFull.is)) c.put_count-in-SlotsFull.ensures

pub returns-in-PagesFull : goal.returns-in-PagesFull
returns-in-PagesFull g c = same_text (ap (λ n. codes "pages full " ++ decimal n) c.from-in-PagesFull.ensures ∙ sym (ap reply_text c.in-PagesFull.is)) c.put_count-in-PagesFull.ensures

pub returns-in-Media : goal.returns-in-Media
returns-in-Media g c = same_text (sym (ap reply_text c.in-Media.is)) c.put-in-Media.ensures
