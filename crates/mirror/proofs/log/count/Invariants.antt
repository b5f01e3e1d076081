use Rattle.std.proofs.Common.{◌≡◌, take}
use Rattle.array_shape.specs.Logged.{ranges_of}
use Rattle.eaw_face.specs.State.{count_on}
use Rattle.mirror.proofs.log.count.Given as goal

abbrev pub invariant-loop-part : goal.invariant-loop-part
invariant-loop-part l = l.count ≡ count_on l.shape l.logger (ranges_of (take l.part-index l.parts))
