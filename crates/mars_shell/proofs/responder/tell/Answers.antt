use Rattle.std.proofs.lemmas.Result.{err_from_is_err_and}
use Rattle.mars_shell.proofs.Answering.{stopped}
use Rattle.mars_shell.proofs.responder.tell.Goals as goal

pub returns-in_err-going_on : goal.returns-in_err-going_on
returns-in_err-going_on c =
    let exit = err_from_is_err_and c.from_residual.result c.from_residual.ensures.1 in
    rw (exit.1, exit.2) (stopped c.args.caller c.args.reply.now c.args.out.now.items c.in_err-going_on.field-0.0 c.in_err-going_on.ensures)
