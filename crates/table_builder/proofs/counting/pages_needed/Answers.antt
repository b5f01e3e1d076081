use Rattle.std.proofs.Common.{length, sym, ◌∙◌, ap, arith}
use Rattle.std.proofs.lemmas.List.{drop_all}
use Rattle.table_builder.proofs.PageCounts.{below_count, length-index_for, length-levels_for}
use Rattle.table_builder.proofs.Pieces.{drop_item}
use Rattle.table_builder.proofs.counting.pages_needed.Goals as goal

pub loop-table-preserved : goal.loop-table-preserved
loop-table-preserved c =
    let split = ap (below_count c.args.fill) (drop_item c.args.tables.now c.loop-table.table-index c.table-item.result _ c.loop-table-test.true c.table-item.is) in
    let this = length-levels_for c.args.fill c.table-item.result.1 c.count_below.result (λ ps long. c.count_below.ensures.count 0 0 ps (long ∙ ap length (sym c.as_slice.ensures))) in
    record {
      count = omega (arith, split, this, c.loop-table.invariant.count);
      few = omega (arith, c.loop-table.invariant.few, c.count_below.ensures.small);
    }

pub returns : goal.returns
returns c =
    let none = ap (below_count c.args.fill) (drop_all c.loop-table.table-index c.args.tables.now (omega (arith, c.loop-table-test.false))) in
    omega (arith, none, c.loop-table.invariant.count, length-index_for c.args.fill c.args.tables.now)
