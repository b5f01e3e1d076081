-- A call of a transaction, as the records make it, and how it is then answered.
use Rattle.std.specs.Prelude.{ℕ, ◌≡◌, ◌≤◌, ◌<◌, ◌⊎◌, Bool, IsTrue, IsFalse, List, [], ◌∷◌, ◌++◌, length, filter, Some, None, Result, Ok, Err, IfOk, IsErrOf}
use Rattle.eaw_face.specs.Causes.{IsAlive}
use Rattle.history.specs.Table.{Granted}
use Rattle.history.specs.declared.call.Call.TheVariants.{Table as OnTable}
use Rattle.history.specs.declared.call.TableCall.{TableCall}
use Rattle.history.specs.declared.call.TableCall.TheVariants.{Save, Back}
use Rattle.history.specs.declared.call.Reply.{Reply}
use Rattle.history.specs.declared.call.Reply.TheVariants as reply
use Rattle.page_store.specs.Index.{Index}
use Rattle.page_store.specs.Shown.{PagesView}
use Rattle.record_table.specs.Does.{Does}
use Rattle.record_table.specs.Faults.{reply_to}
use Rattle.record_table.specs.Shown.{state_of, pairs_of, held_on, is_write_on, AreNamed}
use Rattle.record_table.specs.declared.fault.TableFault.{TableFault}
use Rattle.record_table.specs.declared.fault.TableFault.TheVariants.{Media}
use Rattle.caller_steps.specs.Fate.{is_refusal, is_committed}
use Rattle.caller_steps.specs.Locked.{IsFree, IsBusyWith}
use Rattle.caller_steps.specs.Step.{uses_index}
use Rattle.caller_steps.specs.Cause.{IsOfKind}
use Rattle.mars_core.specs.Seats.{Seats, bare}
use Rattle.mars_core.specs.TableCall.{number_for}

-- The records made the call as number t, on the table with that number. A reply of theirs grants it and is of its kind, and only a call that uses the index meets a fault of the medium.
pub record Works (tells : Bool) (Opens : List ℕ → List ℕ → Type 0) (index : Index) (table t : ℕ) (call : TableCall) (old new : PagesView) (result : Result Reply TableFault) : Type 0 where
  pub does : Does tells Opens index table t (OnTable call) old new result
  pub due : IsErrOf result Media → IsTrue (uses_index call)
  pub granted : IfOk result (λ answer. IsFalse (is_refusal answer))
  pub kind : IfOk result (IsOfKind (length (old.counts t)) call)
  pub plain : IfOk result (λ answer. IsFalse (is_committed answer))

-- a save or a way back finds what it needs: fewer than 32 saves, or the one that it names
abbrev pub HasSaves : ℕ → TableCall → Type 0
HasSaves saves Save = saves < 32
HasSaves saves (Back n) = (0 < n) × (n ≤ saves)
HasSaves saves _ = Unit {0}

-- it does not, and this is the refusal
abbrev pub IsSaveRefusal : ℕ → TableCall → Reply → Type 0
IsSaveRefusal saves Save answer = (32 ≤ saves) × (answer ≡ reply.SavesFull)
IsSaveRefusal saves (Back n) answer = ((0 < n) × (n ≤ saves) → ⊥) × (answer ≡ reply.NoSave n)
IsSaveRefusal saves _ answer = ⊥

-- The call was not made, and this is why: it lacks a save, its table is not there, there is no memory to keep it, or another caller holds a
-- stripe of it.
abbrev pub Unmade : ℕ → Seats → ℕ → TableCall → Reply → Type 0
Unmade saves seats t call answer = IsSaveRefusal saves call answer ⊎ (HasSaves saves call × (((number_for seats.names call ≡ None) × (answer ≡ reply.NoTable))
    ⊎ ((table : ℕ) × (number_for seats.names call ≡ Some table) × ((answer ≡ reply.NoMemory) ⊎ ((holder : ℕ) × (answer ≡ reply.Busy holder) × IsBusyWith (bare seats) t call holder)))))

-- What becomes of the transaction with these calls, and how the caller is answered, given what the records made of the call: their reply is
-- told and kept with it, or, if there is no memory to keep the rows of a scan, neither. A refusal is told.
abbrev pub IsAnswered : Granted → TableCall → Result Reply TableFault → Granted → Reply → Type 0
IsAnswered calls call (Ok made) left answer = ((left ≡ calls ++ (call, made) ∷ []) × (answer ≡ made)) ⊎ ((rows : List (ℕ × List ℕ)) × (made ≡ reply.Listed rows) × (left ≡ calls) × (answer ≡ reply.NoMemory))
IsAnswered calls call (Err fault) left answer = (left ≡ calls) × (answer ≡ reply_to fault)

-- the call was made
pub record Made (tells : Bool) (Opens : List ℕ → List ℕ → Type 0) (index : Index) (saves : ℕ) (seats : Seats) (t : ℕ) (calls : Granted) (call : TableCall) (old new : PagesView) (left : Granted) (answer : Reply) : Type 0 where
  pub saves_there : HasSaves saves call
  pub free : IsFree (bare seats) t call
  pub table : ℕ
  pub number : number_for seats.names call ≡ Some table
  pub result : Result Reply TableFault
  pub works : Works tells Opens index table t call old new result
  pub answered : IsAnswered calls call result left answer

-- what records show of the writes that numbers have not committed, while their store is not dead: how many each logger holds, and that the
-- index has their keys
pub record IsShown (tells : Bool) (index : Index) (old : PagesView) : Type 0 where
  pub held : IsTrue tells → IsAlive old.store → (t g : ℕ) → held_on old t g ≡ length (filter (is_write_on old.store.shape (pairs_of index old.store.state.bytes) g) ((state_of index old).logs t).writes)
  pub named : IsTrue tells → IsAlive old.store → (t : ℕ) → AreNamed (pairs_of index old.store.state.bytes) ((state_of index old).logs t).writes
