use Rattle.std.proofs.Common.{take}
use Rattle.write_back.specs.Shown.{Sets}
use Rattle.write_back.proofs.deferred.DeferredParts.add.Given as goal

abbrev pub invariant-loop-entry : goal.invariant-loop-entry
invariant-loop-entry l = Sets l.fn.self l.self l.tid (take l.entry-index l.entries)
