use Rattle.std.proofs.lemmas.Result.{IfOk-from_err}
use Rattle.record_table.proofs.slots.read_as.Goals as goal

pub returns-in_err-read_as-clause-said : goal.returns-in_err-read_as-clause-said
returns-in_err-read_as-clause-said g c told = IfOk-from_err c.from_residual.result _ c.from_residual.ensures.0
