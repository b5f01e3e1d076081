use Rattle.std.proofs.Common.{Some, sym, ◌∙◌, arith}
use Rattle.record_slots.proofs.SlotLemmas.{free_slot_is, no_free_slot}
use Rattle.record_slots.proofs.Front.{four_read}
use Rattle.record_slots.proofs.free.read_free_slot.Goals as goal

pub returns-then-bytes-ne-FREE_SLOT : goal.returns-then-bytes-ne-FREE_SLOT
returns-then-bytes-ne-FREE_SLOT c = sym (no_free_slot c.args.bytes.now c.if-bytes-ne-FREE_SLOT.true)

pub returns : goal.returns
returns c =
    let b = c.args.bytes.now in
    let next = c.read_u32.ensures ∙ four_read 2 62 b (omega arith) in
    let rank = c.read_u32-2.ensures ∙ four_read 6 58 b (omega arith) in
    (λ i. Some (record { next = next i; rank = rank i })) ∙ sym (free_slot_is b c.if-bytes-ne-FREE_SLOT.false)
