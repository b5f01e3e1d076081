-- The callers, and what each of them has.
use Rattle.std.specs.Prelude.{ℕ, ◌≡◌, false, nat_eq, List, [], ◌++◌, length, Option, None, Some, unwrap_or, slice_get}
use Rattle.std.specs.Map.{update}
use Rattle.std.specs.FinMap.{empty}
use Rattle.history.specs.Locks.{touched}
use Rattle.history.specs.Table.{Granted}
use Rattle.history.specs.declared.transaction.Done.{Done}
use Rattle.caller_steps.specs.State.{State, Offer, unoffered, offered, unsettled, offers_with}
use Rattle.caller_steps.specs.Offers.{offerers, with_group, group_in, without}
use Rattle.mars_core.specs.Masks.{AreMasksOf}
use Rattle.mars_core.specs.declared.live.Live as of_calls
use Rattle.mars_core.specs.declared.offer.Offer as kept
use Rattle.mars_core.specs.declared.offer.Offer.TheVariants as given
use Rattle.mars_core.specs.declared.seat.Seat as of_caller
use Rattle.mars_core.specs.declared.seat.Seat.TheVariants as place
use Rattle.mars_core.specs.declared.seat.Ending.{Ending}
use Rattle.mars_core.specs.declared.seat.Ending.TheVariants.{Committed, Doubtful}

-- a live transaction: its granted calls, and the masks of what they touched
abbrev pub Live : Type 0
Live = of_calls.Live Granted

abbrev pub Seat : Type 0
Seat = of_caller.Seat Granted

-- for each caller its seat
abbrev pub Places : Type 0
Places = List Seat

-- the names of the tables, by their numbers, and the callers' seats
pub record Seats : Type 0 where
  pub names : List (List ℕ)
  pub places : Places

-- a caller's seat; beyond the callers there are free ones
abbrev pub seat_in : Places → ℕ → Seat
seat_in places caller = unwrap_or (slice_get places caller) place.Free

-- the live transaction of a seat, if there is one
abbrev pub live_of : Seat → Option Live
live_of (place.Live live) = Some live
live_of (place.Offered live) = Some live
live_of _ = None

-- what its caller has offered
abbrev pub offer_of : Seat → Offer
offer_of (place.Offered live) = offered
offer_of (place.Committed n) = unsettled n
offer_of _ = unoffered

-- the granted calls of a live transaction
abbrev pub calls_in : Option Live → Option Granted
calls_in None = None
calls_in (Some live) = Some live.calls

abbrev pub live_in : Seats → ℕ → Option Granted
live_in seats caller = calls_in (live_of (seat_in seats.places caller))

abbrev pub offers_in : Seats → ℕ → Offer
offers_in seats caller = offer_of (seat_in seats.places caller)

-- what a seat says of an offer
abbrev pub offer_in : kept.Offer → Offer
offer_in given.Nothing = unoffered
offer_in given.Offered = offered
offer_in (given.Committed n) = unsettled n

-- a caller's granted calls, none if it has no live transaction
abbrev pub calls_at : Seats → ℕ → Granted
calls_at seats caller = unwrap_or (live_in seats caller) []

-- the masks of a live transaction are those of what its calls touched
abbrev pub IsMasked : List (List ℕ) → Live → Type 0
IsMasked names live = AreMasksOf (touched names live.calls) live.masks

-- so for each caller's
abbrev pub AreMasked : List (List ℕ) → Places → Type 0
AreMasked names places = (caller : ℕ) (live : Live) → live_of (seat_in places caller) ≡ Some live → IsMasked names live

-- this caller's live transaction is now this one, or none, and all else is as it was
pub record Seated (old : Seats) (caller : ℕ) (calls : Option Granted) (new : Seats) : Type 0 where
  pub count : length new.places ≡ length old.places
  pub names : new.names ≡ old.names
  pub live : live_in new ≡ update nat_eq (live_in old) caller calls
  pub offers : offers_in new ≡ offers_in old

-- so it is, and the caller has now offered this
pub record Given (old : Seats) (caller : ℕ) (calls : Option Granted) (offer : Offer) (new : Seats) : Type 0 where
  pub count : length new.places ≡ length old.places
  pub names : new.names ≡ old.names
  pub live : live_in new ≡ update nat_eq (live_in old) caller calls
  pub offers : offers_in new ≡ offers_with (offers_in old) caller offer

-- a state with these live transactions and nothing else
abbrev pub bare : Seats → State
bare seats = record { names = seats.names; base = empty; history = []; live = live_in seats; offers = offers_in seats; doubt = []; is_dead = false; index = record { keys = record { slot_of = λ key. None; due = 0; used_slots = 0; used_pages = 0; next_page = 0; levels = λ name. 0 }; bytes = [] } }

-- the callers that have offered a transaction which no group has committed, rising
abbrev pub offered_in : Seats → List ℕ
offered_in seats = offerers (length seats.places) (bare seats)

-- the seat of one of a group, whose transaction has this number, once the group has ended so
abbrev pub seat_of : Ending → ℕ → Seat
seat_of Committed at = place.Committed at
seat_of Doubtful at = place.Free

-- the state once the transactions of these callers have ended so, as a group with this last number
abbrev pub ended : Ending → State → ℕ → List ℕ → State
ended Committed state last callers = with_group state last callers
ended Doubtful state last callers = without state callers

-- the state has these live transactions and offers, and so many were committed in it
pub record IsOf (seats : Seats) (before : ℕ) (state : State) : Type 0 where
  pub live : state.live ≡ live_in seats
  pub offers : state.offers ≡ offers_in seats
  pub long : length state.history ≡ before

-- What these callers have offered in the state has ended so, and is behind the others of a list.
pub record Ends (ending : Ending) (last : ℕ) (state : State) (callers : List ℕ) (old : Seats) (was now : List Done) (new : Seats) : Type 0 where
  pub count : length new.places ≡ length old.places
  pub names : new.names ≡ old.names
  pub live : live_in new ≡ (ended ending state last callers).live
  pub offers : offers_in new ≡ (ended ending state last callers).offers
  pub group : now ≡ was ++ group_in state last callers
