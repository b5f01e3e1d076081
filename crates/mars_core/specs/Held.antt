-- What a core holds, and what it shows of it.
use Rattle.std.specs.Prelude.{ℕ, List, Option}
use Rattle.array_shape.specs.declared.shape.Shape.{Shape}
use Rattle.eaw_face.specs.StoreView.{StoreView}
use Rattle.page_store.specs.Index.{Index}
use Rattle.page_store.specs.Shown.{Shown}
use Rattle.history.specs.Rows.{NamedRows, table_of}
use Rattle.history.specs.Table.{Granted}
use Rattle.history.specs.Writes.{Table}
use Rattle.history.specs.declared.transaction.Done.{Done}
use Rattle.caller_steps.specs.State.{State, Offer}
use Rattle.caller_steps.specs.Core.{CoreView}
use Rattle.mars_core.specs.Over.{limits_of, index_of, ShowsAll, OpensWithTables}
use Rattle.mars_core.specs.Seats.{Seats, live_in, offers_in}

-- The records over a store, the rows of the records at the opening, the callers' live transactions, the transactions committed since, and
-- those in doubt.
pub record Held (S : Type 0) : Type 0 where
  pub records : Shown S
  pub base : List NamedRows
  pub seats : Seats
  pub history : List Done
  pub doubt : List Done

-- the state with tables of these names, these records at the opening, transactions committed since, live ones, offers and transactions in doubt, over what a store shows
abbrev pub state_at : Index → StoreView → List (List ℕ) → Table → List Done → (ℕ → Option Granted) → (ℕ → Offer) → List Done → State
state_at index store names base history live offers doubt = record {
  names = names;
  base = base;
  history = history;
  live = live;
  offers = offers;
  doubt = doubt;
  is_dead = store.is_dead;
  index = index_of index store.state.bytes;
}

abbrev pub state_over : {S : Type 0} → Index → StoreView → Held S → State
state_over index store held = state_at index store held.seats.names (table_of held.base) held.history (live_in held.seats) (offers_in held.seats) held.doubt

-- a core in this state over a store
abbrev pub core_over : (Shape → List ℕ → List ℕ → Type 0) → Index → StoreView → State → CoreView
core_over Opens index store state = record {
  limits = limits_of index store.shape store.depth;
  state = state;
  shows = ShowsAll index;
  faults = store.faults;
  moment = store.moment;
  left_since = store.left_since;
  opens = OpensWithTables (Opens store.shape) index state.names;
}

abbrev pub core_of : {S : Type 0} → (Shape → List ℕ → List ℕ → Type 0) → Index → StoreView → Held S → CoreView
core_of Opens index store held = core_over Opens index store (state_over index store held)
