use Rattle.std.proofs.Common.{Some, ℕ, ◌/◌, ap, sym, ◌∙◌, arith}
use Rattle.std.specs.Option.{option_map}
use Rattle.byteorder.specs.Endian.{little_from}
use Rattle.record_slots.specs.Slots.{state_said}
use Rattle.record_slots.specs.declared.slot.Slot.TheVariants.{Absent, Present}
use Rattle.record_slots.proofs.SlotLemmas.{key_read, slot_said-absent, slot_said-present, slot_said-other}
use Rattle.record_slots.proofs.slot.read_slot.Goals as goal

pub returns-then-state-ge-STATES : goal.returns-then-state-ge-STATES
returns-then-state-ge-STATES c = sym (slot_said-other c.args.bytes.now (omega arith))

pub returns-then-state-eq0 : goal.returns-then-state-eq0
returns-then-state-eq0 c =
    ap (λ (key : ℕ). Some (Absent (state_said c.args.bytes.now / 2) key)) (c.read_u64-key.ensures ∙ key_read c.args.bytes.now) ∙ sym (slot_said-absent c.args.bytes.now (omega arith) c.if-state-eq0.true)

pub returns-in_err-value : goal.returns-in_err-value
returns-in_err-value c =
    c.from_residual.ensures ∙ sym (slot_said-present c.args.bytes.now (omega arith) c.if-state-eq0.false ∙ ap (option_map (Present (state_said c.args.bytes.now / 2) (little_from 2 8 c.args.bytes.now))) (sym c.read_value.ensures ∙ c.in_err-value.was))

pub returns : goal.returns
returns c =
    ap (λ (key : ℕ). Some (Present (state_said c.args.bytes.now / 2) key c.in_ok-value.value)) (c.read_u64-key.ensures ∙ key_read c.args.bytes.now)
    ∙ sym (slot_said-present c.args.bytes.now (omega arith) c.if-state-eq0.false ∙ ap (option_map (Present (state_said c.args.bytes.now / 2) (little_from 2 8 c.args.bytes.now))) (sym c.read_value.ensures ∙ c.in_ok-value.was))
