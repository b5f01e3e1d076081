use Rattle.std.proofs.Common.{arith}
use Rattle.write_back.proofs.commits.LateData.new.Goals as goal

pub returns-clause-ready : goal.returns-clause-ready
returns-clause-ready c = record {
  fit = c.in_ok-queue.ensures.fit c.args.shape.now;
  shape_is = c.in_ok-parts.ensures.shape;
  places = λ some. c.in_ok-parts.ensures.places (omega (arith, some, c.in_ok-queue.ensures.depth));
}
