use Rattle.array_shape.specs.NumberSet.{members}
use Rattle.eaw_device.proofs.Clearing.{Clears}
use Rattle.eaw_device.proofs.log.clear_logs.Given as goal

abbrev pub invariant-loop-tid : goal.invariant-loop-tid
invariant-loop-tid l = Clears l.shape l.fn.logs l.logs (members l.fn.tids) l.tid-iterator
