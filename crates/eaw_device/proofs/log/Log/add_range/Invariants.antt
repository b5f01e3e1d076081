use Rattle.array_shape.specs.Parts.{parts_of}
use Rattle.eaw_device.proofs.Keeping.{StandsAt}
use Rattle.eaw_device.proofs.log.Log.add_range.Given as goal

abbrev pub invariant-loop-part : goal.invariant-loop-part
invariant-loop-part l = StandsAt l.shape l.fn.self l.self (parts_of l.shape l.addr l.len) l.part-iterator
