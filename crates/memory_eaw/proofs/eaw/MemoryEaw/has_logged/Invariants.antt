use Rattle.std.proofs.Common.{◌≡◌}
use Rattle.std.specs.Prelude.{None}
use Rattle.array_shape.specs.NumberSet.{members}
use Rattle.eaw_face.specs.State.{group_log}
use Rattle.eaw_face.specs.Command.{commit_group}
use Rattle.eaw_face.specs.Causes.{known}
use Rattle.memory_eaw.specs.Log.{logged}
use Rattle.memory_eaw.specs.Shown.{shown, plain_of}
use Rattle.memory_eaw.proofs.eaw.MemoryEaw.has_logged.Given as goal

abbrev pub invariant-loop-tid : goal.invariant-loop-tid
invariant-loop-tid l = record {
  live : known (shown l.self) (commit_group l.tid-iterator) None;
  empty : group_log (logged (plain_of l.self).logs) l.tid-iterator ≡ group_log (logged (plain_of l.self).logs) (members l.fn.tids);
}
