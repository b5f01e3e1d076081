use Rattle.std.proofs.Common.{sym, ◌∙◌, arith}
use Rattle.row_bytes.proofs.Saying.{head_said-is, little_from-piece}
use Rattle.row_bytes.proofs.head.read_head.Goals as goal

pub returns : goal.returns
returns c = sym (head_said-is c.args.bytes.now _ _ (sym c.read_u64.ensures)
    (sym (c.read_u16.ensures ∙ little_from-piece 8 2 8 c.args.bytes.now (omega arith))))
