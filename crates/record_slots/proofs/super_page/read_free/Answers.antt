use Rattle.std.proofs.Common.{◌-◌, ◌∙◌, refl, sym, arith}
use Rattle.std.proofs.lemmas.Bool.{eq-eqb, ne_eqb}
use Rattle.record_slots.specs.Super.{version_said, free_in}
use Rattle.record_slots.proofs.Front.{four_read}
use Rattle.record_slots.proofs.super_page.read_free.Goals as goal

pub returns-then-bytes-eq1 : goal.returns-then-bytes-eq1
unfolding version_said free_in
returns-then-bytes-eq1 c = rw (eq-eqb (version_said c.args.bytes.now) 1 c.if-bytes-eq1.true) refl

pub returns : goal.returns
unfolding version_said free_in
returns c =
    c.read_u32.ensures ∙ four_read c.args.at (512 - c.args.at) c.args.bytes.now (omega (arith, c.requires))
    ∙ sym (rw (ne_eqb (version_said c.args.bytes.now) 1 c.if-bytes-eq1.false) refl)
