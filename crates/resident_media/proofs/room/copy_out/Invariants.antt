use Rattle.std.proofs.Common.{◌-◌, length}
use Rattle.resident_media.proofs.Spots.{Copied}
use Rattle.resident_media.proofs.room.copy_out.Given as goal

abbrev pub invariant-loop-done : goal.invariant-loop-done
invariant-loop-done l = Copied l.at l.done l.room l.places l.buf

abbrev pub decreases-loop-done : goal.decreases-loop-done
decreases-loop-done l = length l.initial.buf - l.done
