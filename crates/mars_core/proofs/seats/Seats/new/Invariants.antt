use Rattle.std.proofs.Common.{ℕ, ◌≡◌, length}
use Rattle.mars_core.specs.declared.seat.Seat.TheVariants as place
use Rattle.mars_core.specs.Seats.{seat_in}
use Rattle.mars_core.proofs.seats.Seats.new.Given as goal

-- so many callers with free seats
abbrev pub invariant-loop-caller : goal.invariant-loop-caller
invariant-loop-caller g l = (length l.places.items ≡ l._caller) × ((caller : ℕ) → seat_in l.places.items caller ≡ place.Free)
