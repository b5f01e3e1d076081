use Rattle.std.proofs.Common.{ℕ, ◌+◌, ◌<◌, ◌≤◌, length}
use Rattle.std.specs.Prelude.{slice_index}
use Rattle.array_shape.specs.Parts.{parts_on}
use Rattle.eaw_device.proofs.staging.check_room.Given as goal

abbrev pub invariant-loop-number : goal.invariant-loop-number
invariant-loop-number l = (g : ℕ) → g < l.number → slice_index l.log.held g + length (parts_on l.shape g l.addr l.len) ≤ l.shape.entries
