use Rattle.std.proofs.Common.{List, ℕ, ◌++◌, ap, ◌∙◌, arith}
use Rattle.std.specs.List.{flat_map}
use Rattle.std.proofs.lemmas.List.{take_all}
use Rattle.history_text.proofs.TableLines.{table_lines, all_lines}
use Rattle.history_text.proofs.tables.write_tables.Goals as goal

pub returns : goal.returns
returns c =
    let tables = c.args.tables.now in
    c.loop-table.invariant ∙ ap (λ (l : List ℕ). c.args.text.now.items ++ l) (ap (flat_map table_lines) (take_all c.loop-table.table-index tables (omega (arith, c.loop-table-test.false))) ∙ all_lines tables)
