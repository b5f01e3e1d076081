use Rattle.std.proofs.Common.{Some, sym, ◌∙◌, arith}
use Rattle.record_slots.proofs.SlotLemmas.{free_page_is, no_free_page}
use Rattle.record_slots.proofs.Front.{four_read}
use Rattle.record_slots.proofs.free.read_free_page.Goals as goal

pub returns-then-bytes-ne-FREE_PAGE : goal.returns-then-bytes-ne-FREE_PAGE
returns-then-bytes-ne-FREE_PAGE c = sym (no_free_page c.args.bytes.now c.if-bytes-ne-FREE_PAGE.true)

pub returns : goal.returns
returns c =
    let b = c.args.bytes.now in
    let next = c.read_u32.ensures ∙ four_read 4 508 b (omega arith) in
    let rank = c.read_u32-2.ensures ∙ four_read 8 504 b (omega arith) in
    (λ i. Some (record { next = next i; rank = rank i })) ∙ sym (free_page_is b c.if-bytes-ne-FREE_PAGE.false)
