use Rattle.std.proofs.Common.{ℕ, List, ◌≡◌, ◌∙◌, ◌+◌, ◌-◌, length, ap, sym, subst, arith}
use Rattle.record_slots.specs.Super.{entry_bytes}
use Rattle.record_slots.specs.Text.{IsName}
use Rattle.record_slots.proofs.Naming.{entry_written, long_entry}
use Rattle.table_builder.proofs.front.entry_of.Goals as goal

pub returns-clause-bytes : goal.returns-clause-bytes
returns-clause-bytes c =
    let m : 1 + length c.as_bytes-text.result.now - 1 ≡ length c.as_bytes-text.result.now = omega arith in
    entry_written c.as_bytes-text.result.now c.args.root (1 + length c.as_bytes-text.result.now - 1) c.copy_from_slice.new.self c.write_u32.new.buf _ (subst IsName (sym c.as_bytes-text.ensures.text) c.as_bytes-text.ensures.name)
    c.copy_from_slice.ensures.after m c.write_u32.ensures
    ∙ ap (λ (name : List ℕ). entry_bytes (record { name = name; root = c.args.root })) c.as_bytes-text.ensures.text

pub returns-clause-size : goal.returns-clause-size
returns-clause-size c =
    let m : 1 + length c.as_bytes-text.result.now - 1 ≡ length c.as_bytes-text.result.now = omega arith in
    let name = subst IsName (sym c.as_bytes-text.ensures.text) c.as_bytes-text.ensures.name in
    ap length
    (entry_written c.as_bytes-text.result.now c.args.root (1 + length c.as_bytes-text.result.now - 1) c.copy_from_slice.new.self c.write_u32.new.buf _ name c.copy_from_slice.ensures.after m c.write_u32.ensures)
    ∙ long_entry (record { name = c.as_bytes-text.result.now; root = c.args.root }) name (omega (arith, c.ranges.root.fits))
