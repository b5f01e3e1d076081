-- What a call does to an open array.
use Rattle.std.specs.Prelude.{ℕ, ℤ, ◌≡◌, ◌<◌, ◌≤◌, ◌⊎◌, true, List, Option, Some, None}
use Rattle.record_slots.specs.Text.{IsName, IsValue}
use Rattle.history.specs.declared.call.Call.{Call}
use Rattle.history.specs.declared.call.Reply.{Reply}
use Rattle.caller_steps.specs.Core.{Steps}
use Rattle.taped_records.specs.declared.records.TapedRecords.{TapedRecords}
use Rattle.taped_records.specs.Shown.{core_in}
use Rattle.taped_records.specs.Status.{status_of, bad_caller, bad_name, bad_value}

-- the rows that are kept after a reply
abbrev pub Keeps : Type 0
Keeps = List (ℕ × List ℕ) → Reply → List (ℕ × List ℕ)

-- The core made this call of the caller's, with this reply. Nothing else changes but the rows that are kept.
pub record Makes (keeps : Keeps) (caller : ℕ) (call : Call) (old new : TapedRecords) (reply : Reply) : Type 0 where
  pub inside : caller < old.callers
  pub steps : Steps true caller call (core_in old) (core_in new) reply
  pub rows : new.rows ≡ keeps old.rows reply
  pub callers : new.callers ≡ old.callers
  pub window : new.window ≡ old.window

-- there is no such caller
abbrev pub IsOutside : ℕ → TapedRecords → ℤ → Type 0
IsOutside caller array status = (status ≡ bad_caller) × (array.callers ≤ caller)

-- why it was not asked: nothing of the kind; a text is no name; or it is no name, or another no value
abbrev pub Fits : ℤ → Type 0
Fits status = ⊥

abbrev pub IsBadName : List ℕ → ℤ → Type 0
IsBadName name status = (status ≡ bad_name) × (IsName name → ⊥)

pub record IsBadRecord (name value : List ℕ) (status : ℤ) : Type 0 where
  pub why : IsBadName name status ⊎ ((status ≡ bad_value) × (IsValue value → ⊥))

-- It was done, the status is that of its answer, and this is said of that. Or, for one of these reasons, nothing was done, and nothing is said.
abbrev pub Asks : {A : Type 0} → (TapedRecords → TapedRecords → A → Type 0) → (A → ℤ) → (ℤ → Type 0) → (Option A → Type 0) → ℕ → TapedRecords → TapedRecords → ℤ → Type 0
Asks {A} Does status_of Unfit Says caller old new status =
    ((answer : A) × Does old new answer × (status ≡ status_of answer) × Says (Some answer))
    ⊎ ((IsOutside caller old status ⊎ Unfit status) × (new ≡ old) × Says None)

-- so it is with one call of the core
abbrev pub Calls : Keeps → (ℤ → Type 0) → (Option Reply → Type 0) → ℕ → Call → TapedRecords → TapedRecords → ℤ → Type 0
Calls keeps Unfit Says caller call old new status = Asks (Makes keeps caller call) status_of Unfit Says caller old new status
