use Rattle.std.proofs.lemmas.Result.{err_from_is_err_and}
use Rattle.counter.proofs.counter.Counter+Eaw+M.open.Goals as goal

pub returns-in_err-store-clause-keeps_on_err : goal.returns-in_err-store-clause-keeps_on_err
returns-in_err-store-clause-keeps_on_err g c =
    let exit = err_from_is_err_and c.from_residual.result c.from_residual.ensures.1 in
    rw (exit.1, exit.2) c.in_err-store.ensures.keeps_on_err
