-- What holds for callers by turns between any two calls.
use Rattle.std.specs.Prelude.{ℕ, ◌≡◌, ◌≢◌, ◌-◌, ◌<◌, false, List, [], ◌++◌, Option, Some, None, IsSome, slice_get}
use Rattle.history.specs.Table.{IsRight}
use Rattle.history.specs.Legal.{IsLegal}
use Rattle.history.specs.Groups.{AreGrouped}
use Rattle.history.specs.Locks.{AreApart}
use Rattle.history.specs.Table.{Granted}
use Rattle.history.specs.declared.transaction.Done.{Done}
use Rattle.caller_steps.specs.State.{State, Offer, unoffered, offered, unsettled, calls_of, records_of}

-- the transaction with this number is one of the caller's
abbrev pub IsCommittedAs : List Done → ℕ → ℕ → Type 0
IsCommittedAs history caller n = (0 < n) × (done : Done) × (slice_get history (n - 1) ≡ Some done) × (done.caller ≡ caller)

-- What a caller has offered is live, until a group commits it; it is then in the history under its number, and none is live.
abbrev pub IsOfferOf : List Done → ℕ → Option Granted → Offer → Type 0
IsOfferOf history caller live unoffered = Unit {0}
IsOfferOf history caller live offered = IsSome live
IsOfferOf history caller live (unsettled n) = (live ≡ None) × IsCommittedAs history caller n

-- The history is legal on the base, also with what is in doubt, which only a dead state has. Each caller's granted calls are right on the
-- records, and those of two callers clash nowhere. What callers have offered is live or in the history.
pub record IsSound (state : State) : Type 0 where
  pub legal : IsLegal state.base state.history
  pub certain : state.is_dead ≡ false → state.doubt ≡ []
  pub doubtful : IsLegal state.base (state.history ++ state.doubt)
  pub groups : AreGrouped state.history
  pub doubtful_groups : AreGrouped (state.history ++ state.doubt)
  pub right : (caller : ℕ) → IsRight (records_of state) (calls_of state caller)
  pub offers : (caller : ℕ) → IsOfferOf state.history caller (state.live caller) (state.offers caller)
  pub apart : (one other : ℕ) → one ≢ other → AreApart state.names (calls_of state one) (calls_of state other)
