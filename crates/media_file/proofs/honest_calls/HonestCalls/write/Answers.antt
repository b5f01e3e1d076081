use Rattle.std.proofs.Common.{◌∙◌}
use Rattle.std.proofs.lemmas.Result.{err_from_is_err_and}
use Rattle.media_file.proofs.TakeLemmas.{takes_failed}
use Rattle.media_file.proofs.honest_calls.HonestCalls.write.Goals as goal

pub returns-in_err-put-in-Ok-clause-takes : goal.returns-in_err-put-in-Ok-clause-takes
returns-in_err-put-in-Ok-clause-takes c =
    let p = err_from_is_err_and c.from_residual.result c.from_residual.ensures.1 in
    takes_failed c.args.self.now c.put.new.self c.from_residual.result p.0 p.1 (p.2 ∙ c.in_err-put-in-Ok.ensures.fault) (c.put.ensures.same.1 ∙ c.answer.ensures.rest) c.in_err-put-in-Ok.ensures.listed
