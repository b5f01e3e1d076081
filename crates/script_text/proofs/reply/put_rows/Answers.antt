use Rattle.std.proofs.Common.{ap}
use Rattle.texts.proofs.Appending.{cut_at}
use Rattle.script_text.proofs.ReplyLemmas.{row_line}
use Rattle.script_text.proofs.reply.put_rows.Goals as goal

pub returns-in_err-put_row : goal.returns-in_err-put_row
returns-in_err-put_row g c =
    cut_at (row_line c.args.caller) c.args.rows.now c.loop-row.row-index _ c.from_residual.result c.loop-row-test.true (ap (row_line c.args.caller) c.row-item.is) c.from_residual.ensures.0
    c.loop-row.invariant c.in_err-put_row.ensures
