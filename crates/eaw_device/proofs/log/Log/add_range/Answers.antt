use Rattle.std.proofs.Common.{◌∙◌}
use Rattle.array_shape.specs.Parts.{parts_of}
use Rattle.eaw_device.proofs.Keeping.{stands_first, stands_next}
use Rattle.eaw_device.proofs.log.Log.add_range.Goals as goal

pub loop-part-init : goal.loop-part-init
loop-part-init c = stands_first c.args.shape.now c.args.self.now (parts_of c.args.shape.now c.args.addr c.args.len) c.into_iter-part-iterator.result
    (c.into_iter-part-iterator.ensures.into_iter_gives ∙ c.parts-part-items.ensures.parts) c.requires.kept c.parts-part-items.ensures.placed c.requires.room

pub loop-part-preserved : goal.loop-part-preserved
loop-part-preserved c =
    stands_next c.args.shape.now c.args.self.now c.loop-part.self c.add.new.self (parts_of c.args.shape.now c.args.addr c.args.len) c.loop-part.part-iterator c.next.new.self c.in-Some.part
    c.in-Some.ensures.steps c.loop-part.invariant c.add.ensures.kept c.add.ensures.live c.add.ensures.held c.add.ensures.entries c.args.shape.now.in_range
