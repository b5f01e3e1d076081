use Rattle.std.proofs.Common.{ℕ, replicate, ◌∙◌, ap}
use Rattle.record_slots.specs.Free.{free_said}
use Rattle.record_slots.proofs.Freed.{free_page_back, free_page_written}
use Rattle.record_slots.proofs.free.write_free_page.Goals as goal

pub returns-clause-written : goal.returns-clause-written
returns-clause-written c = free_page_written c.args.free.now c.fill.new.self c.copy_from_slice.new.self (c.fill.ensures.after (λ y same. same) ∙ ap (λ (n : ℕ). replicate n 0) c.told-out) (c.copy_from_slice.ensures.after ∙ c.numbers_of.ensures.numbers)

pub returns-clause-reads_back : goal.returns-clause-reads_back
returns-clause-reads_back c =
    ap (free_said 0xFF 4) (free_page_written c.args.free.now c.fill.new.self c.copy_from_slice.new.self (c.fill.ensures.after (λ y same. same) ∙ ap (λ (n : ℕ). replicate n 0) c.told-out) (c.copy_from_slice.ensures.after ∙ c.numbers_of.ensures.numbers)) ∙ free_page_back c.args.free.now c.numbers_of.ensures.small.0 c.numbers_of.ensures.small.1
