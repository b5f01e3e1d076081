use Rattle.script_text.proofs.Naming.{no_name, no_proper, behind_name}
use Rattle.script_text.proofs.call.read_named.Goals as goal

pub returns-in_err-name : goal.returns-in_err-name
returns-in_err-name c = rw c.from_residual.ensures (no_name c.args.bytes.now c.in_err-name.ensures)

pub returns-in_err-table : goal.returns-in_err-table
returns-in_err-table c = rw c.from_residual-in_err-table.ensures (no_proper c.args.bytes.now _ _ c.in_ok-name.ensures.0 c.in_ok-name.ensures.1 c.in_err-table.ensures)

pub returns : goal.returns
returns c = behind_name c.args.bytes.now _ _ c.in_ok-table.table c.read_of.result c.in_ok-name.ensures.0 c.in_ok-name.ensures.1 c.in_ok-table.ensures.0 c.in_ok-table.ensures.1 c.read_of.ensures
