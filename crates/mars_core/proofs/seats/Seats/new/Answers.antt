use Rattle.std.proofs.Common.{◌≡◌, ◌+◌, ℕ, length, refl, sym, ap, subst}
use Rattle.mars_core.specs.declared.seat.Seat.TheVariants as place
use Rattle.mars_core.specs.Seats.{Seat, Places, seat_in, live_of, calls_in, offer_of}
use Rattle.mars_core.proofs.Seating.{free-push, length-push}
use Rattle.mars_core.proofs.seats.Seats.new.Goals as goal

pub loop-caller-init : goal.loop-caller-init
loop-caller-init g c = subst (λ (places : Places). (length places ≡ 0) × ((caller : ℕ) → seat_in places caller ≡ place.Free)) (sym c.in_ok-places.ensures.items) (refl, λ caller. refl)

pub loop-caller-preserved : goal.loop-caller-preserved
loop-caller-preserved g c = subst (λ (places : Places). (length places ≡ c.loop-caller._caller + 1) × ((caller : ℕ) → seat_in places caller ≡ place.Free)) (sym c.in_ok-push.ensures.items)
    (length-push c.loop-caller.places.items place.Free c.loop-caller._caller c.loop-caller.invariant.0, free-push c.loop-caller.places.items c.loop-caller.invariant.1)

pub returns-clause-none : goal.returns-clause-none
returns-clause-none g c = λ caller. ap (λ (seat : Seat). calls_in (live_of seat)) (c.loop-caller.invariant.1 caller)

pub returns-clause-unoffered : goal.returns-clause-unoffered
returns-clause-unoffered g c = λ caller. ap offer_of (c.loop-caller.invariant.1 caller)
