-- What a caller is told of an open array and its tape.
use Rattle.std.specs.Prelude.{ℕ, ℤ, pos, ◌≡◌, ◌≤◌, List, Option, Some, None}
use Rattle.caller_steps.specs.Core.{Continues, IsSafe}
use Rattle.tape_media.specs.Steps.{Step, with_first_done}
use Rattle.tape_media.specs.Tape.{Tape, done_moment}
use Rattle.mars_core.specs.Taped.{IsSafeOnDevice}
use Rattle.taped_calls.specs.Told.{IsPutOut}
use Rattle.taped_records.specs.declared.records.TapedRecords.{TapedRecords}
use Rattle.taped_records.specs.Status.{no_piece}
use Rattle.taped_records.specs.Shown.{tape_of, core_in}

-- a row is told, by a status, its key and its value; or there is none
abbrev pub IsRow : Option (ℕ × List ℕ) → ℤ → (key_was key : ℕ) → (was now : List ℕ) → (len_was len : ℕ) → Type 0
IsRow None status key_was key was now len_was len = (status ≡ pos 1) × (key ≡ key_was) × IsPutOut None was now len_was len
IsRow (Some row) status key_was key was now len_was len = (status ≡ pos 0) × (key ≡ row.0) × IsPutOut (Some row.1) was now len_was len

-- the name of a table is told; or there is none
abbrev pub IsTold : Option (List ℕ) → ℤ → (was now : List ℕ) → (len_was len : ℕ) → Type 0
IsTold None status was now len_was len = (status ≡ pos 3) × IsPutOut None was now len_was len
IsTold (Some name) status was now len_was len = (status ≡ pos 0) × IsPutOut (Some name) was now len_was len

-- the tape goes on to this one, and the records are what they were
pub record GoesOn (next : Tape) (old new : TapedRecords) : Type 0 where
  pub tape : tape_of new ≡ next
  pub records : Continues (core_in old) (core_in new)
  pub rows : new.rows ≡ old.rows
  pub callers : new.callers ≡ old.callers

-- the next step was done, and is forgotten; or there is none
abbrev pub IsDone : Option Step → TapedRecords → TapedRecords → ℤ → Type 0
IsDone None old new status = (status ≡ no_piece) × (new ≡ old)
IsDone (Some step) old new status = (status ≡ pos 0) × GoesOn (record (tape_of old) { past = with_first_done (tape_of old).past }) old new

-- It is the moment up to which all steps were done on the device. What was safe since a moment up to it is safe there: whatever a loss of power
-- leaves opens with the first so many transactions.
pub record IsDoneUpTo (moment : ℕ) (array : TapedRecords) : Type 0 where
  pub is : moment ≡ done_moment (tape_of array)
  pub durable : (since least : ℕ) → since ≤ moment → IsSafe (core_in array) since least → IsSafeOnDevice (tape_of array).past (core_in array) least
