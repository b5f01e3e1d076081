use Rattle.std.proofs.Common.{refl, sym, ap, ◌∙◌, ◌∷◌, [], ◌++◌}
use Rattle.std.specs.Prelude.{codes}
use Rattle.std.specs.Fmt.{decimal}
use Rattle.script_text.specs.declared.answer.Answer.TheVariants.{Data}
use Rattle.script_text.proofs.ReplyLemmas.{log_full_text}
use Rattle.script_text.proofs.AnswerLemmas.{answer_appended, part_appended, data_appended}
use Rattle.script_text.proofs.answer.write_answer.Goals as goal

pub returns-in-Logged-clause-ok : goal.returns-in-Logged-clause-ok
returns-in-Logged-clause-ok c = answer_appended c.args.number _ _ (decimal c.args.number) _ _ _ c.append_count.result refl c.in-Logged.is refl c.append_count.ensures.ok

pub returns-in-Fine-clause-ok : goal.returns-in-Fine-clause-ok
returns-in-Fine-clause-ok c = answer_appended c.args.number _ _ (decimal c.from.result) _ _ _ c.append_pieces.result (ap decimal c.from.ensures) c.in-Fine.is refl c.append_pieces.ensures.ok

pub returns-in-Part-clause-ok : goal.returns-in-Part-clause-ok
returns-in-Part-clause-ok c =
    part_appended c.args.number _ c.in-Part.addr c.in-Part.bytes c.as_bytes.result.now (decimal c.from.result) _ _ c.append_bytes.result (ap decimal c.from.ensures) c.as_bytes.ensures c.in-Part.is c.append_bytes.ensures.ok

pub returns-in-Data-clause-ok : goal.returns-in-Data-clause-ok
returns-in-Data-clause-ok c =
    data_appended c.args.number _ c.as_bytes-in-Data.result.now (decimal c.from.result) _ _ c.append_bytes-in-Data.result (ap decimal c.from.ensures) (c.in-Data.is ∙ ap Data (sym c.as_bytes-in-Data.ensures)) c.append_bytes-in-Data.ensures.ok

pub returns-in-Len-clause-ok : goal.returns-in-Len-clause-ok
returns-in-Len-clause-ok c = answer_appended c.args.number _ _ (decimal c.args.number) _ _ _ c.append_count-in-Len.result refl c.in-Len.is refl c.append_count-in-Len.ensures.ok

pub returns-in-Held-clause-ok : goal.returns-in-Held-clause-ok
returns-in-Held-clause-ok c =
    answer_appended c.args.number _ _ (decimal c.args.number) _ _ _ c.append_count-in-Held.result refl c.in-Held.is (ap (λ n. codes " held " ++ (decimal n ++ 10 ∷ [])) c.from-in-Held.ensures) c.append_count-in-Held.ensures.ok

pub returns-in-Unknown-clause-ok : goal.returns-in-Unknown-clause-ok
returns-in-Unknown-clause-ok c =
    answer_appended c.args.number _ _ (decimal c.args.number) _ _ _ c.append_count-in-Unknown.result refl c.in-Unknown.is (ap (λ n. codes " unknown " ++ (decimal n ++ 10 ∷ [])) c.from-in-Unknown.ensures) c.append_count-in-Unknown.ensures.ok

pub returns-in-BadRange-clause-ok : goal.returns-in-BadRange-clause-ok
returns-in-BadRange-clause-ok c = answer_appended c.args.number _ _ (decimal c.from.result) _ _ _ c.append_pieces-in-BadRange.result (ap decimal c.from.ensures) c.in-BadRange.is refl c.append_pieces-in-BadRange.ensures.ok

pub returns-in-Live-clause-ok : goal.returns-in-Live-clause-ok
returns-in-Live-clause-ok c = answer_appended c.args.number _ _ (decimal c.from.result) _ _ _ c.append_pieces-in-Live.result (ap decimal c.from.ensures) c.in-Live.is refl c.append_pieces-in-Live.ensures.ok

pub returns-in-LogFull-clause-ok : goal.returns-in-LogFull-clause-ok
returns-in-LogFull-clause-ok c =
    answer_appended c.args.number _ _ (decimal c.args.number) _ _ _ c.append_log_full.result refl c.in-LogFull.is (log_full_text c.in-LogFull.logger c.in-LogFull.held c.in-LogFull.needed) c.append_log_full.ensures.ok
