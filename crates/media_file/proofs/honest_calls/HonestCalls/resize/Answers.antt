use Rattle.std.proofs.Common.{List, [], ◌∷◌, ◌++◌, ◌∙◌, ap}
use Rattle.media_file.specs.declared.honest_call.HonestCall.{HonestCall}
use Rattle.media_file.specs.declared.honest_call.Done.TheVariants.{Resized}
use Rattle.media_file.specs.Past.{Past, noted, resized}
use Rattle.media_file.proofs.Keeping.{kept_call}
use Rattle.media_file.proofs.honest_calls.HonestCalls.resize.Goals as goal

pub returns-clause-noted : goal.returns-clause-noted
returns-clause-noted c =
    let asked = c.answer.new.self in
    let call : HonestCall = record { moment = c.args.moment; done = Resized c.args.len } in
    let pushed = c.push_reserved.ensures.items ∙ ap (λ (calls : List HonestCall). calls ++ call ∷ []) c.reserve.ensures.items in
    kept_call asked.first.items asked.calls.items c.push_reserved.new.self.items call pushed ∙ ap (λ (past : Past). noted c.args.moment (resized c.args.len) past) c.answer.ensures.same.0
