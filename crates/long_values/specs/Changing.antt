-- What calls on the records of one long value leave of what a caller sees.
use Rattle.std.specs.Prelude.{[], ◌∷◌, ◌++◌, ℕ, ◌≡◌, ◌+◌, ◌*◌, ◌<◌, ◌≤◌, List, Option}
use Rattle.std.specs.FinMap.{get}
use Rattle.history.specs.declared.key.Key.{Key}
use Rattle.history.specs.Writes.{Table}
use Rattle.caller_steps.specs.Core.{CoreView}
use Rattle.caller_steps.specs.State.{view_of}
use Rattle.caller_steps.specs.Sound.{IsSound}
use Rattle.caller_steps.specs.Run.{Heard}
use Rattle.caller_steps.specs.Step.{Runs}
use Rattle.history.specs.declared.call.Call.TheVariants.{Table as OnTable}
use Rattle.history.specs.declared.call.TableCall.TheVariants.{Back}
use Rattle.transactions.specs.Told.{reply_of}
use Rattle.transactions.specs.Went.{WentWithin, Refuses, turns_by}
use Rattle.transactions.specs.declared.refusal.Refusal.{Refusal}
use Rattle.transactions.specs.declared.work.Stop.{Stop}
use Rattle.transactions.specs.declared.work.Stop.TheVariants.{Refused, GivenUp}
use Rattle.long_values.specs.declared.unkept.Unkept.{Unkept}
use Rattle.long_values.specs.declared.unkept.Unkept.TheVariants.{TooLong, Broken, NoMemory, Half}
use Rattle.long_values.specs.Values.{IsKept}

-- the records that the caller sees within its transaction, and those at its saves
abbrev pub seen_by : ℕ → CoreView → Table
seen_by caller core = (view_of core.state caller).table

abbrev pub saved_by : ℕ → CoreView → List Table
saved_by caller core = (view_of core.state caller).saves

-- but for the keys of this table from `low` on and below `high`, each record is the same
abbrev pub SameOutside : List ℕ → ℕ → ℕ → Table → Table → Type 0
SameOutside name low high old new = (key : Key) → (key.table ≡ name → low ≤ key.key → high ≤ key.key) → get new key ≡ get old key

-- all but the value under this key is the same
abbrev pub SameButAt : List ℕ → ℕ → Table → Table → Type 0
SameButAt name key old new = SameOutside name (key * 512) (key * 512 + 512) old new

-- calls of the caller within its transaction that changed such records alone, and no save
pub record Changes (caller : ℕ) (name : List ℕ) (low high : ℕ) (old new : CoreView) : Type 0 where
  pub sound : IsSound new.state
  pub within : WentWithin caller old new
  pub saves : saved_by caller new ≡ saved_by caller old
  pub outside : SameOutside name low high (seen_by caller old) (seen_by caller new)

-- the core refused the caller the way back to a save
pub record RefusesBack (caller : ℕ) (old new : CoreView) : Type 0 where
  pub before : Heard
  pub save : ℕ
  pub refusal : Refusal
  pub run : Runs old.limits old.state (turns_by caller (before ++ (OnTable (Back save), reply_of refusal) ∷ [])) new.state

-- What is left where a value was not written. The caller sees what it saw; but if the core refused a call, and the way back too, a half of
-- the value may be there.
abbrev pub IsUnwritten : List ℕ → ℕ → ℕ → CoreView → CoreView → Stop Unkept → Type 0
IsUnwritten name key caller old new (Refused refusal) = Refuses caller old new refusal × (seen_by caller new ≡ seen_by caller old)
IsUnwritten name key caller old new (GivenUp (Half refusal)) = Refuses caller old new refusal × RefusesBack caller old new × SameButAt name key (seen_by caller old) (seen_by caller new)
IsUnwritten name key caller old new (GivenUp reason) = seen_by caller new ≡ seen_by caller old

-- so many bytes are written for no other reason of the value's own but that they are too many
abbrev pub IsUnfit : ℕ → Stop Unkept → Type 0
IsUnfit size (GivenUp TooLong) = 16384 < size
IsUnfit size (GivenUp Broken) = ⊥
IsUnfit size (GivenUp NoMemory) = ⊥
IsUnfit size _ = Unit {0}

-- why a value was not read: the records are those of no value, or there is no memory for the bytes, or the core refused the call
abbrev pub IsUnread : List ℕ → ℕ → Table → Stop Unkept → Type 0
IsUnread name key table (GivenUp Broken) = (value : Option (List ℕ)) → IsKept name key value table → ⊥
IsUnread name key table (GivenUp TooLong) = ⊥
IsUnread name key table (GivenUp (Half refusal)) = ⊥
IsUnread name key table _ = Unit {0}

-- back at a save: the caller sees what it saw there, or, where the core refused the way back, what it saw before
abbrev pub IsUndone : ℕ → Table → CoreView → CoreView → Stop Unkept → Type 0
IsUndone caller there old new (Refused refusal) = seen_by caller new ≡ there
IsUndone caller there old new (GivenUp reason) = RefusesBack caller old new × (seen_by caller new ≡ seen_by caller old)
