use Rattle.script_text.proofs.Lines.{no_call_of}
use Rattle.script_text.proofs.call.read_of.Goals as goal

pub returns-in_err-low : goal.returns-in_err-low
returns-in_err-low c = rw c.from_residual.ensures (no_call_of c.args.bytes.now (record {
  get = c.in_default.ensures;
  put = c.in_default-read_put.ensures;
  del = c.in_default-read_u64_after.ensures;
  scan = c.in_err-low.ensures;
}) c.args.table.now)
