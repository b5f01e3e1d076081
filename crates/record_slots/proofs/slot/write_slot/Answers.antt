use Rattle.std.proofs.Common.{ℕ, Some, ◌≡◌, ◌<◌, ◌^◌, ◌∙◌, ap, sym, subst, List, arith}
use Rattle.record_slots.specs.Slots.{slot_bytes, slot_said, table_of_slot}
use Rattle.record_slots.specs.declared.slot.Slot.{Slot}
use Rattle.record_slots.specs.declared.slot.Slot.TheVariants.{Absent, Present}
use Rattle.record_slots.proofs.SlotLemmas.{absent_written, present_written, slot_said-slot_bytes}
use Rattle.record_slots.proofs.slot.write_slot.Goals as goal

absent_small : (slot : Slot) (table key : ℕ) → slot ≡ Absent table key → table_of_slot slot < 8 → table < 8
absent_small slot table key is small = subst (λ (s : Slot). table_of_slot s < 8) is small

present_small : (slot : Slot) (table key : ℕ) (value : List ℕ) → slot ≡ Present table key value → table_of_slot slot < 8 → table < 8
present_small slot table key value is small = subst (λ (s : Slot). table_of_slot s < 8) is small

pub returns-in-Absent-clause-written : goal.returns-in-Absent-clause-written
returns-in-Absent-clause-written c = absent_written c.in-Absent.table c.in-Absent.key c.write_u64.new.buf c.write_u64.ensures ∙ ap slot_bytes (sym c.in-Absent.is)

pub returns-in-Absent-clause-reads_back : goal.returns-in-Absent-clause-reads_back
returns-in-Absent-clause-reads_back c =
    let fits : c.in-Absent.key < 2 ^ 64 = omega arith in
    ap slot_said (absent_written c.in-Absent.table c.in-Absent.key c.write_u64.new.buf c.write_u64.ensures)
    ∙ slot_said-slot_bytes (Absent c.in-Absent.table c.in-Absent.key) (absent_small c.args.slot.now c.in-Absent.table c.in-Absent.key c.in-Absent.is c.requires, fits) ∙ ap Some (sym c.in-Absent.is)

pub returns-in-Present-clause-written : goal.returns-in-Present-clause-written
returns-in-Present-clause-written c =
    let key = c.in-Present.key in
    let text = c.as_bytes-text.result.now in
    present_written c.in-Present.table key text c.write_u64-in-Present.new.buf c.copy_from_slice.new.self c.write_u64-in-Present.ensures c.copy_from_slice.ensures.after
    ∙ ap (λ (value : List ℕ). slot_bytes (Present c.in-Present.table key value)) c.as_bytes-text.ensures.text ∙ ap slot_bytes (sym c.in-Present.is)

pub returns-in-Present-clause-reads_back : goal.returns-in-Present-clause-reads_back
returns-in-Present-clause-reads_back c =
    let key = c.in-Present.key in
    let text = c.as_bytes-text.result.now in
    let fits : key < 2 ^ 64 = omega arith in
    ap slot_said (present_written c.in-Present.table key text c.write_u64-in-Present.new.buf c.copy_from_slice.new.self c.write_u64-in-Present.ensures c.copy_from_slice.ensures.after
    ∙ ap (λ (value : List ℕ). slot_bytes (Present c.in-Present.table key value)) c.as_bytes-text.ensures.text)
    ∙ slot_said-slot_bytes (Present c.in-Present.table key c.in-Present.value) (present_small c.args.slot.now c.in-Present.table key c.in-Present.value c.in-Present.is c.requires, fits, c.as_bytes-text.ensures.value) ∙ ap Some (sym c.in-Present.is)
