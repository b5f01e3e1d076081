use Rattle.std.proofs.Common.{refl}
use Rattle.index_pages.proofs.Placing.{place_here, place_later, place_last}
use Rattle.index_pages.proofs.place.place_of.Goals as goal

pub loop-i-init : goal.loop-i-init
loop-i-init c = λ to. refl

pub returns-then-key-pair-clause-place : goal.returns-then-key-pair-clause-place
returns-then-key-pair-clause-place c = λ to. place_here c.args.pairs.now c.loop-i.i c.args.key to (0, 0) c.loop-i-test.true c.if-key-pair.true (c.loop-i.invariant to)

pub loop-i-preserved : goal.loop-i-preserved
loop-i-preserved c = λ to. place_later c.args.pairs.now c.loop-i.i c.args.key to (0, 0) c.loop-i-test.true c.if-key-pair.false (c.loop-i.invariant to)

pub returns-clause-place : goal.returns-clause-place
returns-clause-place c = λ to. place_last c.args.pairs.now c.loop-i.i c.args.key to c.loop-i-test.false (c.loop-i.invariant to)
