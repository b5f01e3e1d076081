use Rattle.std.proofs.Common.{◌-◌, length}
use Rattle.resident_media.proofs.Putting.{PutTo}
use Rattle.resident_media.proofs.blocks.Blocks.put_all.Given as goal

abbrev pub invariant-loop-done : goal.invariant-loop-done
invariant-loop-done l = PutTo l.at l.done l.bytes l.initial.self l.self

abbrev pub decreases-loop-done : goal.decreases-loop-done
decreases-loop-done l = length l.bytes - l.done
