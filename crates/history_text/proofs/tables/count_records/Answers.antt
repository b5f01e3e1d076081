use Rattle.std.proofs.Common.{length, ap, ◌∙◌, arith}
use Rattle.std.specs.List.{sum_by}
use Rattle.std.proofs.lemmas.List.{take_all}
use Rattle.history.specs.Rows.{NamedRows}
use Rattle.history_text.proofs.TableLines.{all_counted}
use Rattle.history_text.proofs.tables.count_records.Goals as goal

pub returns : goal.returns
returns c =
    let tables = c.args.tables.now in
    c.loop-table.invariant ∙ ap (sum_by (λ (table : NamedRows). length table.1)) (take_all c.loop-table.table-index tables (omega (arith, c.loop-table-test.false))) ∙ all_counted tables
