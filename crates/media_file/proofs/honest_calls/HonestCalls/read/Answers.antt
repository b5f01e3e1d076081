use Rattle.std.proofs.Common.{◌∙◌}
use Rattle.std.proofs.lemmas.Result.{err_from_is_err_and}
use Rattle.media_file.proofs.TakeLemmas.{takes_failed}
use Rattle.media_file.proofs.honest_calls.HonestCalls.read.Goals as goal

pub returns-in_err-keep-clause-takes : goal.returns-in_err-keep-clause-takes
returns-in_err-keep-clause-takes c =
    let p = err_from_is_err_and c.from_residual-in_err-keep.result c.from_residual-in_err-keep.ensures.1 in
    takes_failed c.args.self.now c.keep.new.self c.from_residual-in_err-keep.result p.0 p.1 (p.2 ∙ c.in_err-keep.ensures.fault) (c.keep.ensures.same.1 ∙ c.answer.ensures.rest) c.in_err-keep.ensures.listed
