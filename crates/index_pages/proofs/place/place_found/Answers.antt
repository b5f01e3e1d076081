use Rattle.index_pages.proofs.Placing.{sought_first, sought_here, sought_later, sought_last}
use Rattle.index_pages.proofs.place.place_found.Goals as goal

pub loop-i-init : goal.loop-i-init
loop-i-init c = sought_first c.args.pairs.now c.args.key

pub loop-i-preserved : goal.loop-i-preserved
loop-i-preserved c = sought_later c.args.pairs.now c.loop-i.i c.args.key (0, 0) c.loop-i-test.true c.loop-i.invariant c.if-pair-key.false

pub returns-then-pair-key-clause-removes : goal.returns-then-pair-key-clause-removes
returns-then-pair-key-clause-removes c = (sought_here c.args.pairs.now c.loop-i.i c.args.key (0, 0) c.loop-i-test.true c.loop-i.invariant c.if-pair-key.true).0

pub returns-then-pair-key-clause-finds : goal.returns-then-pair-key-clause-finds
returns-then-pair-key-clause-finds c = (sought_here c.args.pairs.now c.loop-i.i c.args.key (0, 0) c.loop-i-test.true c.loop-i.invariant c.if-pair-key.true).1

pub returns-clause-none : goal.returns-clause-none
returns-clause-none c = sought_last c.args.pairs.now c.loop-i.i c.args.key c.loop-i-test.false c.loop-i.invariant
