use Rattle.std.proofs.Common.{ap, sym, ◌∙◌, Some}
use Rattle.std.specs.FinMap.{insert}
use Rattle.history.specs.Key.{of_table}
use Rattle.history.specs.declared.key.Key.{Key}
use Rattle.history.specs.Writes.{Table}
use Rattle.history_replay.specs.Replay.{table_in}
use Rattle.history_replay.proofs.Replaying.{table_in-written, with_rows-next}
use Rattle.history_replay.proofs.replay.put_rows.Goals as goal

pub loop-i-preserved : goal.loop-i-preserved
loop-i-preserved c =
    let row = c.index-rows-rows.result in
    table_in-written c.loop-i.table c.insert.new.self c.placed.result (Some row.1) c.in_ok-insert.ensures.updates
    ∙ ap (λ (k : Key). insert (table_in c.loop-i.table) k row.1) c.placed.ensures
    ∙ ap (λ (t : Table). insert t (of_table c.args.name.now row.0) row.1) c.loop-i.invariant
    ∙ sym (with_rows-next (table_in c.args.table.now) c.args.name.now c.args.rows.now c.loop-i.i row c.loop-i-test.true c.index-rows-rows.is)
