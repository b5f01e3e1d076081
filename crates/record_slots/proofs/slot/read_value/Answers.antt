use Rattle.std.proofs.Common.{◌≡◌, ◌+◌, ◌-◌, ℕ, sym, ◌∙◌, ap, arith, take, drop}
use Rattle.record_slots.specs.Slots.{text_said}
use Rattle.record_slots.proofs.SlotLemmas.{value_said-long, value_said-of}
use Rattle.record_slots.proofs.slot.read_value.Goals as goal

pub returns-then-len-gt-VALUE_MAX : goal.returns-then-len-gt-VALUE_MAX
returns-then-len-gt-VALUE_MAX c = sym (value_said-long c.args.bytes.now (omega arith))

pub returns : goal.returns
returns c =
    let len = c.from-len.result in
    let places : 10 + len - 10 ≡ len = omega arith in
    let there : take (10 + len - 10) (drop 10 c.args.bytes.now) ≡ text_said c.args.bytes.now = ap (λ (n : ℕ). take n (drop 10 c.args.bytes.now)) (places ∙ c.from-len.ensures) in
    value_said-of c.args.bytes.now _ c.of.result c.told-bytes (omega arith) there c.of.ensures
