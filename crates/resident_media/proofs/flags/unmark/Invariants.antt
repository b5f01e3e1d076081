use Rattle.std.proofs.Common.{false}
use Rattle.resident_media.specs.Blocks.{IsMarked}
use Rattle.resident_media.proofs.flags.unmark.Given as goal

abbrev pub invariant-loop-b : goal.invariant-loop-b
invariant-loop-b l = IsMarked l.first l.b false l.initial.known l.known
