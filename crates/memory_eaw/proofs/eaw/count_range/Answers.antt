use Rattle.std.proofs.Common.{ap, length, arith}
use Rattle.array_shape.specs.Parts.{is_part_on, parts_of}
use Rattle.array_shape.proofs.Cutting.{parts_few, filter_few}
use Rattle.mirror.proofs.Pushing.{kept_here}
use Rattle.memory_eaw.proofs.eaw.count_range.Goals as goal

pub overflow_add-count : goal.overflow_add-count
overflow_add-count c =
    let few = parts_few c.args.shape c.args.addr c.args.len c.requires in
    let fewer = filter_few (is_part_on c.args.logger) (parts_of c.args.shape c.args.addr c.args.len) in
    let here = kept_here c.args.logger c.in-Some.part c.loop-part.part-iterator c.next.new.self c.in-Some.ensures.steps c.if-part-logger.true in
    omega (arith, ap length here)
