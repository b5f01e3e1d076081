use Rattle.std.proofs.Common.{ap, sym, ◌∙◌, List}
use Rattle.history.specs.Writes.{Table, Row}
use Rattle.history_replay.specs.Replay.{table_in, with_rows}
use Rattle.history_replay.proofs.Replaying.{table_of-next}
use Rattle.history_replay.proofs.replay.table_from.Goals as goal

pub loop-i-preserved : goal.loop-i-preserved
loop-i-preserved c =
    let table = c.index-tables-tables.result in
    c.in_ok-put_rows.ensures
    ∙ ap (λ (rows : List Row). with_rows (table_in c.loop-i.table) table.0 rows) c.as_slice.ensures
    ∙ ap (λ (t : Table). with_rows t table.0 table.1) c.loop-i.invariant
    ∙ sym (table_of-next c.args.tables.now c.loop-i.i table c.loop-i-test.true c.index-tables-tables.is)
