-- What a cursor tells.
use Rattle.std.specs.Prelude.{ℕ, ℤ, pos, ◌≡◌, ◌<◌, ◌≤◌, ◌∷◌, [], List, Option, Some, None, Result, Ok, Err, IfOk, IfErr}
use Rattle.history.specs.Writes.{Table, Row, rows_within}
use Rattle.caller_steps.specs.Core.{CoreView}
use Rattle.transactions.specs.Adds.{Stays}
use Rattle.transactions.specs.Told.{reply_of}
use Rattle.transactions.specs.Went.{WentWithin, Refuses}
use Rattle.transactions.specs.declared.refusal.Refusal.{Refusal}
use Rattle.long_values.specs.Changing.{seen_by}
use Rattle.taped_calls.specs.Told.{IsPutOut}
use Rattle.taped_records.specs.declared.records.TapedRecords.{TapedRecords}
use Rattle.taped_records.specs.Calls.{Asks, IsBadName}
use Rattle.taped_records.specs.Shown.{core_in}
use Rattle.taped_records.specs.Status.{status_of}

-- It is the first record that a scan of this table from this key on lists, up to a key that is not behind the last one; or a scan up to that lists
-- none.
abbrev pub IsFirst : List ℕ → (from to : ℕ) → Table → Option Row → Type 0
IsFirst name from to table None = rows_within name from to table ≡ []
IsFirst name from to table (Some row) = (high : ℕ) × (others : List Row) × (high ≤ to) × (rows_within name from high table ≡ row ∷ others)

-- Calls of the caller within its transaction read the first record that it sees, or none, and changed nothing that it sees; or one was refused.
pub record ReadsFirst (name : List ℕ) (from to caller : ℕ) (old new : CoreView) (answer : Result (Option Row) Refusal) : Type 0 where
  pub stays : Stays caller old new
  pub within : WentWithin caller old new
  pub same : seen_by caller new ≡ seen_by caller old
  pub first : IfOk answer (IsFirst name from to (seen_by caller old))
  pub refused : IfErr answer (Refuses caller old new)

-- so it was done to an open array, whose rows of the last scan stay
pub record Seeks (name : List ℕ) (from to caller : ℕ) (old new : TapedRecords) (answer : Result (Option Row) Refusal) : Type 0 where
  pub inside : caller < old.callers
  pub does : ReadsFirst name from to caller (core_in old) (core_in new) answer
  pub rows : new.rows ≡ old.rows
  pub callers : new.callers ≡ old.callers

-- the status of the answer; the key of the record, or else what was there; and its value
abbrev pub status_first : Result (Option Row) Refusal → ℤ
status_first (Ok None) = pos 1
status_first (Ok (Some row)) = pos 0
status_first (Err refusal) = status_of (reply_of refusal)

abbrev pub key_first : ℕ → Option (Result (Option Row) Refusal) → ℕ
key_first was (Some (Ok (Some row))) = row.0
key_first was _ = was

abbrev pub value_first : Option (Result (Option Row) Refusal) → Option (List ℕ)
value_first (Some (Ok (Some row))) = Some row.1
value_first _ = None

-- So an open array is asked: it was done, and this is the status and what is told; or, for a reason that the status tells, nothing was done, and
-- nothing is told.
abbrev pub AsksNext : (name : List ℕ) (from to caller key_was key : ℕ) (room_was room : List ℕ) (len_was len : ℕ) (old new : TapedRecords) → ℤ → Type 0
AsksNext name from to caller key_was key room_was room len_was len old new status =
    Asks (Seeks name from to caller) status_first (IsBadName name) (λ told. (key ≡ key_first key_was told) × IsPutOut (value_first told) room_was room len_was len) caller old new status
