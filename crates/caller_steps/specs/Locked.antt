-- Which caller's locks a call meets.
use Rattle.std.specs.Prelude.{ℕ, ◌≢◌, ◌<◌, Bool, true, IsTrue, IsFalse, List}
use Rattle.history.specs.Locks.{Meets, has_table}
use Rattle.history.specs.declared.call.Call.{Call}
use Rattle.history.specs.declared.call.Call.TheVariants.{Table}
use Rattle.history.specs.declared.call.TableCall.{TableCall}
use Rattle.caller_steps.specs.State.{State, calls_of}
use Rattle.caller_steps.specs.Offers.{takes_calls}

-- the call clashes with another caller's live transaction at some stripe
abbrev pub Blocks : State → ℕ → TableCall → ℕ → Type 0
Blocks state caller call holder = (holder ≢ caller) × Meets state.names call (calls_of state holder)

-- it clashes with no other caller's
abbrev pub IsFree : State → ℕ → TableCall → Type 0
IsFree state caller call = (holder : ℕ) → Blocks state caller call holder → ⊥

-- there is a table of the name that a call asks for, if it asks for one
abbrev pub finds_table : List (List ℕ) → Call → Bool
finds_table names (Table call) = has_table names call
finds_table names call = true

-- A call on a table or on saves clashes with none, if it asks for locks at all: the medium has not failed, its caller has a live transaction that
-- takes calls, and the table that it asks for is there. Other calls ask for none.
abbrev pub IsLocked : State → ℕ → Call → Type 0
IsLocked state caller (Table call) = IsFalse state.is_dead → IsTrue (takes_calls state caller) → IsTrue (has_table state.names call) → IsFree state caller call
IsLocked state caller call = Unit {0}

-- the lowest caller with whose transaction it clashes
abbrev pub IsBusyWith : State → ℕ → TableCall → ℕ → Type 0
IsBusyWith state caller call holder = Blocks state caller call holder × ((lower : ℕ) → lower < holder → Blocks state caller call lower → ⊥)
