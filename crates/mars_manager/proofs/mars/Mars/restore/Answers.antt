use Rattle.std.proofs.Common.{◌∙◌, arith}
use Rattle.mars_manager.proofs.Knowns.{lower_one, lower_covered, lower_next, lower_all}
use Rattle.mars_manager.proofs.mars.Mars.restore.Goals as goal

pub lower-requires-clause-below : goal.lower-requires-clause-below
lower-requires-clause-below g c = lower_one c.args.holds.now c.loop-stripe.stripe _ c.args.pass.now.known _ c.from.ensures c.requires.below c.loop-stripe.invariant.known

pub lower-requires-clause-covered : goal.lower-requires-clause-covered
lower-requires-clause-covered g c = lower_covered c.args.holds.now c.loop-stripe.stripe _ c.args.pass.now.known _ c.from.ensures (omega arith) (omega arith) c.number.ensures.stands.long c.requires.covered c.number.ensures.stands.covered c.loop-stripe.invariant.known

pub loop-stripe-preserved : goal.loop-stripe-preserved
loop-stripe-preserved g c = record {
  table = c.lower.ensures.table ∙ c.loop-stripe.invariant.table;
  known = lower_next c.args.holds.now c.loop-stripe.stripe _ c.args.pass.now.known _ _ c.from.ensures (omega arith) (omega arith) c.number.ensures.stands.long c.loop-stripe.invariant.known c.lower.ensures.known;
}

pub returns-clause-known : goal.returns-clause-known
returns-clause-known g c = lower_all c.args.holds.now c.loop-stripe.stripe c.args.pass.now.known _ (omega arith) (omega arith) c.number.ensures.stands.long c.loop-stripe.invariant.known
