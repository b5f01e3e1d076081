use Rattle.std.proofs.Common.{ℕ, ◌+◌, ◌<◌, ◌≤◌}
use Rattle.array_shape.specs.Parts.{parts_of_write}
use Rattle.array_shape.specs.Logged.{ranges_of}
use Rattle.eaw_face.specs.State.{listed, count_on}
use Rattle.memory_eaw.specs.Shown.{shown}
use Rattle.memory_eaw.proofs.eaw.MemoryEaw.check_room.Given as goal

abbrev pub invariant-loop-logger : goal.invariant-loop-logger
invariant-loop-logger l = (k : ℕ) → k < l.logger → count_on l.self.shape k (listed ((shown l.self).ranges l.tid)) + count_on l.self.shape k (ranges_of (parts_of_write l.addr l.bytes)) ≤ l.self.shape.entries
