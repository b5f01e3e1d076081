use Rattle.array_shape.specs.NumberSet.{members}
use Rattle.memory_eaw.specs.Shown.{plain_of}
use Rattle.memory_eaw.proofs.Groups.{Frees}
use Rattle.memory_eaw.proofs.eaw.MemoryEaw.free_all.Given as goal

abbrev pub invariant-loop-tid : goal.invariant-loop-tid
invariant-loop-tid l = Frees (plain_of l.fn.self) (plain_of l.self) (members l.fn.tids) l.tid-iterator
