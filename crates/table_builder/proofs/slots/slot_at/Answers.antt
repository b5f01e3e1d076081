use Rattle.std.proofs.Common.{◌+◌, drop}
use Rattle.table_builder.proofs.Pieces.{drop_item, slot_behind, slot_found}
use Rattle.table_builder.proofs.slots.slot_at.Goals as goal

pub returns-then-left-rows-clause-slot : goal.returns-then-left-rows-clause-slot
returns-then-left-rows-clause-slot c =
    let split = drop_item c.args.tables.now c.loop-number.number c.index-tables-number.result _ c.loop-number-test.true c.index-tables-number.is in
    slot_found c.args.tables.now c.loop-number.number c.loop-number.left c.args.slot c.index-tables-number.result (drop (c.loop-number.number + 1) c.args.tables.now) c.as_slice-rows.result.now split c.as_slice-rows.ensures
    c.loop-number.invariant c.index-rows-left.result c.index-rows-left.is c.if-left-rows.true

pub loop-number-preserved : goal.loop-number-preserved
loop-number-preserved c =
    let split = drop_item c.args.tables.now c.loop-number.number c.index-tables-number.result _ c.loop-number-test.true c.index-tables-number.is in
    slot_behind c.args.tables.now c.loop-number.number c.loop-number.left c.args.slot c.index-tables-number.result (drop (c.loop-number.number + 1) c.args.tables.now) c.as_slice-rows.result.now split c.as_slice-rows.ensures
    c.loop-number.invariant c.if-left-rows.false
