use Rattle.std.proofs.Common.{refl, sym, ◌∙◌, arith}
use Rattle.row_bytes.proofs.Saying.{row_said-is, little_from-piece}
use Rattle.row_bytes.proofs.row.read_row.Goals as goal

pub returns : goal.returns
returns c = sym (row_said-is c.args.bytes.now _ refl refl
    (sym (c.read_u16.ensures ∙ little_from-piece 2 2 14 c.args.bytes.now (omega arith)))
    (sym (c.read_u16-2.ensures ∙ little_from-piece 4 2 12 c.args.bytes.now (omega arith)))
    (sym (c.read_u64.ensures ∙ little_from-piece 6 8 10 c.args.bytes.now (omega arith)))
    (sym (c.read_u16-3.ensures ∙ little_from-piece 14 2 2 c.args.bytes.now (omega arith))))
