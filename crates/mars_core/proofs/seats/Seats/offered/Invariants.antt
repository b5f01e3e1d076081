use Rattle.mars_core.proofs.Grouping.{HasFound}
use Rattle.mars_core.proofs.seats.Seats.offered.Given as goal

-- which of the first callers have offered something, and how many
abbrev pub invariant-loop-caller : goal.invariant-loop-caller
invariant-loop-caller g l = HasFound l.fn.self l.caller l.callers.bits l.count
