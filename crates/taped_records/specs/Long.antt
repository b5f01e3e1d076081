-- What calls on long bytes do to an open array, and tell.
use Rattle.std.specs.Prelude.{ℕ, ℤ, pos, ◌≡◌, ◌<◌, ◌≤◌, ◌⊎◌, ◌^◌, ◌++◌, ◌∷◌, [], Bool, true, false, List, length, Option, Some, None, Result, Ok, Err, IfOk, IfErr, OnOk, IsTrue, IsSome, ◌↔◌}
use Rattle.std.specs.Global.{Vec}
use Rattle.caller_steps.specs.Core.{CoreView}
use Rattle.transactions.specs.Told.{reply_of}
use Rattle.transactions.specs.Adds.{Stays}
use Rattle.transactions.specs.Went.{WentWithin, IsOfCore}
use Rattle.transactions.specs.declared.work.Stop.{Stop}
use Rattle.transactions.specs.declared.work.Stop.TheVariants.{Refused, GivenUp}
use Rattle.long_values.specs.declared.unkept.Unkept.{Unkept}
use Rattle.long_values.specs.declared.unkept.Unkept.TheVariants.{TooLong, Broken, NoMemory, Half}
use Rattle.long_values.specs.Values.{IsKept, length_of}
use Rattle.long_values.specs.Changing.{seen_by, saved_by, SameButAt, IsUnwritten, IsUnfit, IsUnread}
use Rattle.taped_calls.specs.Told.{IsPutOut}
use Rattle.taped_records.specs.declared.records.TapedRecords.{TapedRecords}
use Rattle.taped_records.specs.Shown.{core_in}
use Rattle.taped_records.specs.Status.{status_of, bad_key}
use Rattle.taped_records.specs.Calls.{IsBadName, Asks}

-- why nothing was asked: the text is no name, or the key is too large
pub record IsBadPlace (name : List ℕ) (key : ℕ) (status : ℤ) : Type 0 where
  pub why : IsBadName name status ⊎ ((status ≡ bad_key) × (2 ^ 55 ≤ key))

-- The status of a call that was not done: of the core's reply, or of a reason of the bytes' own.
abbrev pub status_of_stop : Stop Unkept → ℤ
status_of_stop (Refused refusal) = status_of (reply_of refusal)
status_of_stop (GivenUp TooLong) = pos 25
status_of_stop (GivenUp Broken) = pos 26
status_of_stop (GivenUp NoMemory) = pos 13
status_of_stop (GivenUp (Half refusal)) = pos 27

-- of a put; of a removal, which tells whether there were some; and of what was read, if there is some
abbrev pub status_put : Result (Unit {0}) (Stop Unkept) → ℤ
status_put (Ok done) = pos 0
status_put (Err stop) = status_of_stop stop

abbrev pub status_del : Result Bool (Stop Unkept) → ℤ
status_del (Ok true) = pos 0
status_del (Ok false) = pos 1
status_del (Err stop) = status_of_stop stop

abbrev pub status_read : {T : Type 0} → Result (Option T) (Stop Unkept) → ℤ
status_read (Ok None) = pos 1
status_read (Ok (Some value)) = pos 0
status_read (Err stop) = status_of_stop stop

-- the bytes that were read, if there are some; and how many there are, or else what was there
abbrev pub bytes_read : Option (Result (Option (Vec ℕ)) (Stop Unkept)) → Option (List ℕ)
bytes_read (Some (Ok (Some bytes))) = Some bytes.items
bytes_read _ = None

abbrev pub length_read : ℕ → Option (Result (Option ℕ) (Stop Unkept)) → ℕ
length_read was (Some (Ok (Some count))) = count
length_read was _ = was

-- this was done by the core, for the caller, with this answer; nothing else changes
pub record Within {A : Type 0} (Does : ℕ → CoreView → CoreView → A → Type 0) (caller : ℕ) (old new : TapedRecords) (answer : A) : Type 0 where
  pub inside : caller < old.callers
  pub does : Does caller (core_in old) (core_in new) answer
  pub rows : new.rows ≡ old.rows
  pub callers : new.callers ≡ old.callers
  pub window : new.window ≡ old.window

-- Calls within the caller's transaction put the bytes: if there were long bytes under the key, or none, they are just these now. No other record
-- changes, and what was seen before is one more save. If they are not put, all is as it was, unless the core refused the way back.
pub record PutsBytes (name : List ℕ) (key : ℕ) (bytes : List ℕ) (caller : ℕ) (old new : CoreView) (answer : Result (Unit {0}) (Stop Unkept)) : Type 0 where
  pub stays : Stays caller old new
  pub within : WentWithin caller old new
  pub kept : OnOk answer ((was : Option (List ℕ)) → IsKept name key was (seen_by caller old) → IsKept name key (Some bytes) (seen_by caller new))
  pub others : SameButAt name key (seen_by caller old) (seen_by caller new)
  pub saves : OnOk answer (saved_by caller new ≡ saved_by caller old ++ seen_by caller old ∷ [])
  pub refused : IfErr answer (IsUnwritten name key caller old new)
  pub cause : IfErr answer (IsUnfit (length bytes))
  pub short : OnOk answer (length bytes ≤ 16384)

-- They removed them, and answer whether there were some.
pub record DelsBytes (name : List ℕ) (key caller : ℕ) (old new : CoreView) (answer : Result Bool (Stop Unkept)) : Type 0 where
  pub stays : Stays caller old new
  pub within : WentWithin caller old new
  pub gone : IfOk answer (λ there. (was : Option (List ℕ)) → IsKept name key was (seen_by caller old) → IsKept name key None (seen_by caller new) × (IsTrue there ↔ IsSome was))
  pub others : SameButAt name key (seen_by caller old) (seen_by caller new)
  pub saves : OnOk answer (saved_by caller new ≡ saved_by caller old ++ seen_by caller old ∷ [])
  pub refused : IfErr answer (IsUnwritten name key caller old new)
  pub cause : IfErr answer (IsUnfit 0)

-- They read what this says of the bytes, and changed nothing that the caller sees.
pub record ReadsBytes {T : Type 0} (name : List ℕ) (key : ℕ) (Says : Option T → Option (List ℕ) → Type 0) (caller : ℕ) (old new : CoreView) (answer : Result (Option T) (Stop Unkept)) : Type 0 where
  pub stays : Stays caller old new
  pub within : WentWithin caller old new
  pub same : seen_by caller new ≡ seen_by caller old
  pub told : IfOk answer (λ told. (value : Option (List ℕ)) → IsKept name key value (seen_by caller old) → Says told value)
  pub of_core : IfErr answer (IsOfCore caller old new)
  pub unread : IfErr answer (IsUnread name key (seen_by caller old))

-- the bytes themselves; or how many there are
abbrev pub AreBytes : Option (Vec ℕ) → Option (List ℕ) → Type 0
AreBytes None value = value ≡ None
AreBytes (Some bytes) value = value ≡ Some bytes.items

abbrev pub AreMany : Option ℕ → Option (List ℕ) → Type 0
AreMany told value = told ≡ length_of value

-- So an open array is asked to put bytes, to get them, to remove them, and how many there are: it was done, and this is the status and what is
-- told; or, for a reason that the status tells, nothing was done, and nothing is told.
abbrev pub AsksToPut : (name : List ℕ) (key : ℕ) (bytes : List ℕ) (caller : ℕ) (old new : TapedRecords) → ℤ → Type 0
AsksToPut name key bytes caller old new status = Asks (Within (PutsBytes name key bytes) caller) status_put (IsBadPlace name key) (λ told. Unit {0}) caller old new status

abbrev pub AsksToGet : (name : List ℕ) (key caller : ℕ) (room_was room : List ℕ) (len_was len : ℕ) (old new : TapedRecords) → ℤ → Type 0
AsksToGet name key caller room_was room len_was len old new status =
    Asks (Within (ReadsBytes name key AreBytes) caller) status_read (IsBadPlace name key) (λ told. IsPutOut (bytes_read told) room_was room len_was len) caller old new status

abbrev pub AsksToDel : (name : List ℕ) (key caller : ℕ) (old new : TapedRecords) → ℤ → Type 0
AsksToDel name key caller old new status = Asks (Within (DelsBytes name key) caller) status_del (IsBadPlace name key) (λ told. Unit {0}) caller old new status

abbrev pub AsksLength : (name : List ℕ) (key caller len_was len : ℕ) (old new : TapedRecords) → ℤ → Type 0
AsksLength name key caller len_was len old new status = Asks (Within (ReadsBytes name key AreMany) caller) status_read (IsBadPlace name key) (λ told. len ≡ length_read len_was told) caller old new status
