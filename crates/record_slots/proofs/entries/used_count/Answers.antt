use Rattle.record_slots.proofs.Used.{used_first, used_up_to, used_so_far, used_all}
use Rattle.std.proofs.Common.{refl, arith}
use Rattle.record_slots.proofs.entries.used_count.Goals as goal

pub loop-j-init : goal.loop-j-init
loop-j-init c = used_first c.args.entries.now 8 refl

pub returns-then-entries-j-eq0-clause-count : goal.returns-then-entries-j-eq0-clause-count
returns-then-entries-j-eq0-clause-count c = used_up_to c.args.entries.now c.loop-j.j c.if-entries-j-eq0.true c.loop-j.invariant

pub loop-j-preserved : goal.loop-j-preserved
loop-j-preserved c = used_so_far c.args.entries.now c.loop-j.j c.loop-j-test.true c.if-entries-j-eq0.false c.loop-j.invariant

pub returns-clause-count : goal.returns-clause-count
returns-clause-count c = used_all c.args.entries.now c.loop-j.j (omega (arith, c.loop-j-test.false, c.loop-j.auto.j-end)) c.loop-j.invariant
