use Rattle.std.proofs.Common.{refl, sym, ◌∙◌, arith, ◌-◌}
use Rattle.record_slots.proofs.Used.{named_first, left_on_free, left_on_gap, left_on_unnamed, left_on_named, left_at_end, from}
use Rattle.record_slots.specs.Super.{are_named}
use Rattle.record_slots.proofs.entries.have_names.Goals as goal

pub loop-j-init : goal.loop-j-init
loop-j-init c = named_first c.args.entries.now 8 refl

pub loop-j-preserved-then-entries-j-eq0 : goal.loop-j-preserved-then-entries-j-eq0
loop-j-preserved-then-entries-j-eq0 c = left_on_free c.loop-j.used c.args.entries.now c.loop-j.j (are_named c.args.entries.now) c.loop-j-test.true c.if-entries-j-eq0.true c.loop-j.invariant

pub returns-then-not-used : goal.returns-then-not-used
returns-then-not-used c = sym (left_on_gap c.loop-j.used c.args.entries.now c.loop-j.j (are_named c.args.entries.now) c.if-not-used.true c.loop-j-test.true c.if-entries-j-eq0.false c.loop-j.invariant)

pub returns-then-not-has_name : goal.returns-then-not-has_name
returns-then-not-has_name c =
    sym (left_on_unnamed c.loop-j.used c.args.entries.now c.loop-j.j (are_named c.args.entries.now) c.if-not-used.false c.loop-j-test.true c.if-entries-j-eq0.false (sym c.has_name.ensures ∙ c.if-not-has_name.true) c.loop-j.invariant)

pub loop-j-preserved : goal.loop-j-preserved
loop-j-preserved c =
    left_on_named c.loop-j.used c.args.entries.now c.loop-j.j (are_named c.args.entries.now) c.if-not-used.false c.loop-j-test.true c.if-entries-j-eq0.false (sym c.has_name.ensures ∙ c.if-not-has_name.false) c.loop-j.invariant

pub returns : goal.returns
returns c = left_at_end c.loop-j.used (from c.args.entries.now c.loop-j.j) (8 - c.loop-j.j) (are_named c.args.entries.now) (omega (arith, c.loop-j-test.false)) c.loop-j.invariant
