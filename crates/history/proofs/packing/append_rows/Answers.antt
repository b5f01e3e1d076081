use Rattle.std.proofs.Common.{length, ◌∷◌}
use Rattle.history.specs.Packed.{word}
use Rattle.history.proofs.ReadAgain.{row_written, row_can}
use Rattle.history.proofs.packing.append_rows.Goals as goal

pub loop-i-preserved : goal.loop-i-preserved
loop-i-preserved c =
    let rows = c.args.rows.now in
    record {
      items = row_written c.args.bytes.now.items c.loop-i.bytes.items c.append_row.new.bytes.items (3 ∷ word (length rows)) rows c.loop-i.i c.index-rows-i.result c.loop-i-test.true c.index-rows-i.is
          c.loop-i.invariant.items c.in_ok-append_row.ensures.ok;
      able = row_can rows c.loop-i.i c.index-rows-i.result c.loop-i-test.true c.index-rows-i.is c.loop-i.invariant.able c.in_ok-append_row.ensures.able;
    }
