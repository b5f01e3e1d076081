use Rattle.array_shape.specs.NumberSet.{members}
use Rattle.memory_eaw.specs.Shown.{plain_of}
use Rattle.memory_eaw.proofs.Groups.{applies_next}
use Rattle.memory_eaw.proofs.eaw.MemoryEaw.apply_all.Goals as goal

pub loop-tid-preserved : goal.loop-tid-preserved
loop-tid-preserved c =
    applies_next (plain_of c.args.self.now) (plain_of c.loop-tid.self) (plain_of c.apply_from.new.self) (members c.args.tids) c.loop-tid.tid-iterator c.in-Some.tid c.from.result c.next.new.self c.args.self.now.sound c.in-Some.ensures.steps c.from.ensures c.loop-tid.invariant c.apply_from.ensures
