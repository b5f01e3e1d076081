use Rattle.std.proofs.Common.{◌∙◌, ap}
use Rattle.record_slots.specs.Free.{free_said}
use Rattle.record_slots.proofs.Freed.{free_slot_back, free_slot_written}
use Rattle.record_slots.proofs.free.write_free_slot.Goals as goal

pub returns-clause-written : goal.returns-clause-written
returns-clause-written c = free_slot_written c.args.free.now c.copy_from_slice.new.self (c.copy_from_slice.ensures.after ∙ c.numbers_of.ensures.numbers)

pub returns-clause-reads_back : goal.returns-clause-reads_back
returns-clause-reads_back c =
    ap (free_said 0xF0 2) (free_slot_written c.args.free.now c.copy_from_slice.new.self (c.copy_from_slice.ensures.after ∙ c.numbers_of.ensures.numbers)) ∙ free_slot_back c.args.free.now c.numbers_of.ensures.small.0 c.numbers_of.ensures.small.1
