use Rattle.std.proofs.Common.{ℕ}
use Rattle.std.specs.Prelude.{Option}
use Rattle.array_shape.specs.NumberSet.{members}
use Rattle.eaw_face.specs.Command.{commit_group}
use Rattle.eaw_face.specs.Causes.{known}
use Rattle.memory_eaw.specs.Shown.{shown}
use Rattle.memory_eaw.proofs.eaw.MemoryEaw.check_group.Given as goal

abbrev pub invariant-loop-tid : goal.invariant-loop-tid
invariant-loop-tid l = (verdict : Option ℕ) → known (shown l.self) (commit_group l.tid-iterator) verdict → known (shown l.self) (commit_group (members l.fn.tids)) verdict
