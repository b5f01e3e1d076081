use Rattle.texts.proofs.Appending.{all_of, and_then, cut_there}
use Rattle.texts.specs.MediaFault.{media_line}
use Rattle.mars_shell.proofs.joint.put_fault_text.Goals as goal

pub returns-in_err-put_history : goal.returns-in_err-put_history
returns-in_err-put_history g c = cut_there c.from_residual.result media_line c.from_residual.ensures.0 c.in_err-put_history.ensures

pub returns : goal.returns
returns g c = and_then (all_of c.in_ok-put_history.ensures) c.put.ensures
