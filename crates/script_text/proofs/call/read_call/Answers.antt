use Rattle.script_text.proofs.Naming.{named_text, plain_text, main_text, joined, read_joined}
use Rattle.script_text.proofs.call.read_call.Goals as goal

pub returns-in-Some : goal.returns-in-Some
returns-in-Some c = read_joined c.args.bytes.now c.read_named.result (named_text c.args.bytes.now _ c.read_named.result c.in-Some.ensures c.read_named.ensures)

pub returns-in-Some-read_plain : goal.returns-in-Some-read_plain
returns-in-Some-read_plain c = joined c.in-Some-read_plain.call c.args.bytes.now (plain_text c.args.bytes.now c.in-Some-read_plain.call c.in-Some-read_plain.ensures)

pub returns : goal.returns
returns c = read_joined c.args.bytes.now c.read_of.result (main_text c.args.bytes.now c.main_table.result c.read_of.result c.main_table.ensures c.in_default.ensures c.in_default-read_plain.ensures c.read_of.ensures)
