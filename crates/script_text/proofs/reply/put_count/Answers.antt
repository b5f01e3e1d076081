use Rattle.std.specs.Fmt.{decimal}
use Rattle.texts.proofs.Appending.{all_of, and_then, cut_there}
use Rattle.script_text.proofs.reply.put_count.Goals as goal

pub returns-in_err-put : goal.returns-in_err-put
returns-in_err-put g c = cut_there c.from_residual.result (decimal c.args.n) c.from_residual.ensures.0 c.in_err-put.ensures

pub returns : goal.returns
returns g c = and_then (all_of c.in_ok-put.ensures) c.put_number.ensures
