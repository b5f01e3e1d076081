use Rattle.std.proofs.Common.{arith}
use Rattle.btree_pages.proofs.Behind.{behind_first, behind_here, behind_next, behind_none}
use Rattle.btree_pages.proofs.parents.place_behind.Goals as goal

pub loop-i-init : goal.loop-i-init
loop-i-init c = behind_first c.args.entries.now c.args.key

pub loop-i-preserved : goal.loop-i-preserved
loop-i-preserved c = behind_next c.args.entries.now c.loop-i.i c.args.key (omega (arith, c.loop-i.auto.i)) c.loop-i-test.true c.loop-i.invariant c.if-key-entries.false

pub returns-then-key-entries-clause-names : goal.returns-then-key-entries-clause-names
returns-then-key-entries-clause-names c = (behind_here c.args.entries.now c.loop-i.i c.args.key (omega (arith, c.loop-i.auto.i)) c.loop-i-test.true c.loop-i.invariant c.if-key-entries.true).0

pub returns-then-key-entries-clause-removes : goal.returns-then-key-entries-clause-removes
returns-then-key-entries-clause-removes c = (behind_here c.args.entries.now c.loop-i.i c.args.key (omega (arith, c.loop-i.auto.i)) c.loop-i-test.true c.loop-i.invariant c.if-key-entries.true).1

pub returns-clause-last : goal.returns-clause-last
returns-clause-last c = behind_none c.args.entries.now c.loop-i.i c.args.key (omega (arith, c.loop-i.auto.i)) c.loop-i-test.false c.loop-i.invariant
