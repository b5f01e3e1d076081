use Rattle.std.proofs.Common.{List, ◌∙◌, ap, arith}
use Rattle.std.specs.Prelude.{slice_get}
use Rattle.history.specs.Writes.{Row}
use Rattle.taped_records.proofs.Windows.{no_rows, read_row, read_none, read_behind}
use Rattle.taped_records.proofs.cursor.+first_from.Goals as goal

pub returns-in-Some-clause-reads : goal.returns-in-Some-clause-reads
returns-in-Some-clause-reads g t c told =
    let view = g.C.Core.view in
    read_row c.args.table c.args.from c.min-high.result c.args.to c.args.caller (view c.args.core.now) (view c.scan.new.core) c.in_ok-rows.rows _ (omega (arith, c.min-high.ensures)) (c.scan.ensures.stays told) (c.scan.ensures.within told)
    (c.in_ok-rows.ensures.ok told) (c.in-Some.ensures.value ∙ ap (λ (rows : List Row). slice_get rows 0) c.as_slice.ensures)

pub returns-then-high-to-clause-reads : goal.returns-then-high-to-clause-reads
returns-then-high-to-clause-reads g t c told =
    let view = g.C.Core.view in
    read_none c.args.table c.args.from c.min-high.result c.args.to c.args.caller (view c.args.core.now) (view c.scan.new.core) c.in_ok-rows.rows (omega (arith, c.min-high.ensures, c.if-high-to.true)) (c.scan.ensures.stays told) (c.scan.ensures.within told)
    (c.in_ok-rows.ensures.ok told) (no_rows c.in_ok-rows.rows (c.in_default.ensures.value ∙ ap (λ (rows : List Row). slice_get rows 0) c.as_slice.ensures))

pub returns-clause-reads : goal.returns-clause-reads
returns-clause-reads g t c told =
    let view = g.C.Core.view in
    let old = c.args.core.now in
    let mid = c.scan.new.core in
    let new = c.first_from.new.core in
    let behind = c.first_from.ensures.reads told in
    read_behind c.args.table c.args.from c.min-high.result c.args.to c.args.caller (view old) (view mid) (view new) c.in_ok-rows.rows c.first_from.result (omega (arith, c.min-high.ensures, c.saturating_add.ensures, c.if-high-to.false))
    (c.scan.ensures.stays told) (c.in_ok-rows.ensures.ok told) (no_rows c.in_ok-rows.rows (c.in_default.ensures.value ∙ ap (λ (rows : List Row). slice_get rows 0) c.as_slice.ensures))
    (c.calls_join.ensures.stays old mid new c.args.caller (c.scan.ensures.stays told) behind.stays) (c.calls_join.ensures.within old mid new c.args.caller (c.scan.ensures.within told) behind.within) behind
