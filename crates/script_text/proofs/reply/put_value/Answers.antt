use Rattle.std.proofs.Common.{◌++◌, ap}
use Rattle.std.specs.Prelude.{codes}
use Rattle.texts.proofs.Appending.{same_text, all_of, and_then, cut_there}
use Rattle.script_text.proofs.reply.put_value.Goals as goal

pub returns-in_err-put : goal.returns-in_err-put
returns-in_err-put g c = cut_there c.from_residual.result c.args.value.now c.from_residual.ensures.0 c.in_err-put.ensures

pub returns : goal.returns
returns g c = same_text (ap (λ text. codes "val " ++ text) c.as_bytes.ensures.text) (and_then (all_of c.in_ok-put.ensures) c.put-2.ensures)
