use Rattle.std.proofs.Common.{ap, ◌∙◌, List, ℕ}
use Rattle.record_slots.specs.Free.{free_said}
use Rattle.index_pages.proofs.fetch.fetch_free_slot.Goals as goal

pub returns-clause-said : goal.returns-clause-said
returns-clause-said g c = λ told. c.read_free_slot.ensures ∙ ap (λ (l : List ℕ). free_said 0xF0 2 l) (c.in_ok-fetch_slot_bytes.ensures.bytes told)
