use Rattle.std.proofs.Common.{◌≡◌, ◌+◌, ◌≤◌, length}
use Rattle.mars_core.specs.Seats.{offered_in}
use Rattle.mars_core.proofs.Grouping.{HasEnded}
use Rattle.mars_core.proofs.seats.Seats.take_offered.Given as goal

-- what the first callers had offered has ended, and there is room for what the others have
abbrev pub invariant-loop-caller : goal.invariant-loop-caller
invariant-loop-caller g l = record {
  ended : HasEnded l.fn.ending l.fn.before l.fn.last l.caller l.fn.self l.fn.into.items l.into.items l.at l.self;
  room : length l.fn.into.items + length (offered_in l.fn.self) ≤ l.into.capacity;
  first : l.into.first ≡ l.fn.into.first;
}
