use Rattle.std.proofs.Common.{◌-◌, length}
use Rattle.resident_media.proofs.Spots.{IsSame}
use Rattle.resident_media.proofs.room.is_there.Given as goal

abbrev pub invariant-loop-done : goal.invariant-loop-done
invariant-loop-done l = IsSame l.at l.done l.room l.places l.bytes

abbrev pub decreases-loop-done : goal.decreases-loop-done
decreases-loop-done l = length l.initial.bytes - l.done
