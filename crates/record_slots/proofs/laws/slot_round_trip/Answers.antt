use Rattle.record_slots.proofs.SlotLemmas.{slot_said-slot_bytes}
use Rattle.record_slots.proofs.WritingBack.{slot_bytes-slot_said}
use Rattle.record_slots.proofs.laws.slot_round_trip.Goals as goal

pub returns-clause-slot : goal.returns-clause-slot
returns-clause-slot c = slot_said-slot_bytes

pub returns-clause-bytes : goal.returns-clause-bytes
returns-clause-bytes c = slot_bytes-slot_said
