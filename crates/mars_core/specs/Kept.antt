-- The invariant of a core.
use Rattle.std.specs.Prelude.{ℕ, ◌≡◌, ◌≤◌, Bool, IsTrue, List, [], length, None}
use Rattle.history.specs.Writes.{Table}
use Rattle.history.specs.Table.{begun, worked}
use Rattle.std.specs.FinMap.{entries}
use Rattle.array_shape.specs.declared.shape.Shape.{Shape}
use Rattle.eaw_face.specs.Causes.{IsAlive}
use Rattle.eaw_face.specs.State.{listed}
use Rattle.record_slots.specs.Places.{version_of}
use Rattle.page_store.specs.Index.{Index}
use Rattle.page_store.specs.Shown.{PagesView}
use Rattle.history.specs.Log.{log_of}
use Rattle.history.specs.Rows.{NamedRows, records_in, table_of}
use Rattle.record_table.specs.State.{TableState}
use Rattle.record_table.specs.Names.{names_of}
use Rattle.record_table.specs.Shown.{state_of}
use Rattle.caller_steps.specs.State.{State, calls_of, records_of}
use Rattle.caller_steps.specs.Room.{Limits, held_on}
use Rattle.caller_steps.specs.Sound.{IsSound}
use Rattle.caller_steps.specs.Core.{IsSafe}
use Rattle.mars_core.specs.Over.{limits_of}
use Rattle.mars_core.specs.Held.{core_over}

-- The records below have the table of the history and, for each number, the log of its caller's granted calls.
pub record Mirrors (below : TableState) (state : State) : Type 0 where
  pub table : below.table ≡ records_of state
  pub logs : (caller : ℕ) → below.logs caller ≡ log_of (calls_of state caller)

-- no logger holds more of a caller than it has entries for
abbrev pub HasHeld : Limits → State → Type 0
HasHeld limits state = (caller g : ℕ) → held_on limits state caller g ≤ limits.entries

-- of each number so many counts are kept as its caller's transaction has saves, whatever table it began on
abbrev pub HaveSaves : (ℕ → List ℕ) → State → Type 0
HaveSaves counts state = (caller : ℕ) (table : Table) → length (counts caller) ≡ length (worked (begun table) (calls_of state caller)).saves

-- what holds while the store is not dead; the names are those of the data, which is of version 2
pub record IsTied (index : Index) (pages : PagesView) (state : State) : Type 0 where
  pub index_sound : index.sound pages.store.state.bytes
  pub version : version_of pages.store.state.bytes ≡ 2
  pub named : state.names ≡ names_of pages.store.state.bytes
  pub mirrors : Mirrors (state_of index pages) state
  pub sound : IsSound state
  pub room : HasHeld (limits_of index pages.store.shape pages.store.depth) state

-- There is a seat for each number. The rows at the opening are those of a table. A caller without a live transaction has nothing logged, and the
-- saves of each are counted, over any store. What the records show is tied to the state. Whatever may be left now opens with the whole history.
pub record IsKept (tells : Bool) (Opens : Shape → List ℕ → List ℕ → Type 0) (index : Index) (pages : PagesView) (count : ℕ) (rows : List NamedRows) (state : State) : Type 0 where
  pub seats : count ≡ pages.store.shape.numbers
  pub in_order : IsTrue tells → entries (table_of rows) ≡ records_in rows
  pub idle : IsAlive pages.store → (t : ℕ) → state.live t ≡ None → listed (pages.store.ranges t) ≡ []
  pub saves : IsAlive pages.store → HaveSaves pages.counts state
  pub tied : IsTrue tells → IsAlive pages.store → IsTied index pages state
  pub safe : IsTrue tells → IsSafe (core_over Opens index pages.store state) pages.store.moment (length state.history)
