use Rattle.std.proofs.Common.{arith}
use Rattle.write_back.specs.declared.entry.Entry.{Entry}
use Rattle.write_back.proofs.Marking.{loses_more}
use Rattle.write_back.proofs.marks.clear_marks.Goals as goal

abbrev none : Entry
none = record { addr = 0; len = 0; cell = 0 }

pub loop-entry-preserved : goal.loop-entry-preserved
loop-entry-preserved c = loses_more c.args.masks.now c.loop-entry.masks c.args.entries.now c.loop-entry.entry-index c.args.tid c.page_of.result none c.loop-entry-test.true c.page_of.ensures
    (omega (arith, c.page_of.ensures, c.loop-entry.auto.masks, c.requires.pages c.loop-entry.entry-index none c.loop-entry-test.true)) c.requires.tid c.loop-entry.invariant
