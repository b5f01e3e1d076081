use Rattle.std.proofs.Common.{ap}
use Rattle.texts.proofs.Appending.{cut_at}
use Rattle.history_text.specs.Text.{done_lines}
use Rattle.history_text.proofs.transactions.put_history.Goals as goal

pub returns-in_err-put_done : goal.returns-in_err-put_done
returns-in_err-put_done g c =
    cut_at done_lines c.args.history.now c.loop-done.done-index _ c.from_residual.result c.loop-done-test.true (ap done_lines c.done-item.is) c.from_residual.ensures.0 c.loop-done.invariant c.in_err-put_done.ensures
