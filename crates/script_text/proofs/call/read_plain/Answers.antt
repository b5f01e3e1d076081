use Rattle.script_text.proofs.Lines.{no_plain}
use Rattle.script_text.proofs.call.read_plain.Goals as goal

pub returns-in_err-save : goal.returns-in_err-save
returns-in_err-save c = rw c.from_residual.ensures (no_plain c.args.bytes.now (record {
  begin = c.if-is_text.ensures;
  save = c.if-is_text-2.ensures;
  control = c.in_default.ensures;
  back = c.in_err-save.ensures;
}))
