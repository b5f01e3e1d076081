-- Runs of a core: the calls of callers and their replies, one after another, and what each caller has of one.
use Rattle.std.specs.Prelude.{ℕ, ◌≡◌, ◌<◌, ◌≤◌, Bool, true, false, IsTrue, nat_eq, List, [], ◌∷◌, ◌++◌, map, filter, None}
use Rattle.std.specs.List.{AllByRecursion, list_any}
use Rattle.history.specs.declared.call.Call.{Call}
use Rattle.history.specs.declared.call.Call.TheVariants.{Table, Control}
use Rattle.history.specs.declared.call.TableCall.TheVariants.{Put, Del}
use Rattle.history.specs.declared.call.Control.TheVariants.{Purge}
use Rattle.history.specs.declared.call.Reply.{Reply}
use Rattle.history.specs.declared.call.Reply.TheVariants.{Dead}
use Rattle.history.specs.declared.transaction.Done.{Done}
use Rattle.caller_steps.specs.State.{State, unoffered, commits_of}
use Rattle.caller_steps.specs.Room.{Limits}
use Rattle.caller_steps.specs.Step.{Step}
use Rattle.caller_steps.specs.Fate.{Moves, is_media}

-- a caller, its call and the reply
abbrev pub Turn : Type 0
Turn = ℕ × Call × Reply

-- one caller's calls and replies, in order
abbrev pub Heard : Type 0
Heard = List (Call × Reply)

-- what is known of a call of a core: what it does to transactions, that a dead core stays as it is, and that it is a step if the core tells
-- its records
pub record Goes (tells : Bool) (limits : Limits) (old : State) (caller : ℕ) (call : Call) (reply : Reply) (new : State) : Type 0 where
  pub moves : Moves limits.callers old caller call reply new
  pub dead : IsTrue old.is_dead → (reply ≡ Dead) × (new ≡ old)
  pub step : IsTrue tells → Step limits old caller call reply new

-- the same for turns, one after another; for a core that tells its records this is `Runs`
abbrev pub GoesAlong : Bool → Limits → State → List Turn → State → Type 0
GoesAlong tells limits old [] new = new ≡ old
GoesAlong tells limits old (turn ∷ turns) new = (mid : State) × Goes tells limits old turn.0 turn.1 turn.2 mid × GoesAlong tells limits mid turns new

-- the turns are all of the first so many callers
abbrev pub AreOf : ℕ → List Turn → Type 0
AreOf callers turns = AllByRecursion (λ (turn : Turn). turn.0 < callers) turns

-- those of one caller
abbrev pub turns_of : ℕ → List Turn → List (Call × Reply)
turns_of caller turns = map (λ (turn : Turn). (turn.1, turn.2)) (filter (λ (turn : Turn). nat_eq turn.0 caller) turns)

-- the call asks to write a record, to remove one, or to take keys without records out of the index
abbrev pub is_write : Call → Bool
is_write (Table (Put name key value)) = true
is_write (Table (Del name key)) = true
is_write (Control Purge) = true
is_write _ = false

-- a turn asks for that
abbrev pub has_write : List Turn → Bool
has_write turns = list_any (λ (turn : Turn). is_write turn.1) turns

-- the call asks to take keys without records out of the index
abbrev pub is_purge : Call → Bool
is_purge (Control Purge) = true
is_purge _ = false

-- a turn asks for that
abbrev pub has_purge : List Turn → Bool
has_purge turns = list_any (λ (turn : Turn). is_purge turn.1) turns

-- a turn reports a fault of the medium
abbrev pub has_fault : List Turn → Bool
has_fault turns = list_any (λ (turn : Turn). is_media turn.2) turns

-- no caller but the first so many has done anything
abbrev pub HasNoOthers : ℕ → State → Type 0
HasNoOthers callers state = (caller : ℕ) → callers ≤ caller → (commits_of caller state.history ≡ []) × (state.live caller ≡ None) × (state.offers caller ≡ unoffered)

-- The run up to a caller's last turn, or an empty one if it had none: the history was then this one, and since then the others have gone on.
pub record LastTurn (tells : Bool) (limits : Limits) (caller : ℕ) (past : List Turn) (seen : List Done) (first : State) (turns : List Turn) (now : State) : Type 0 where
  pub after : List Turn
  pub mid : State
  pub turns_are : turns ≡ past ++ after
  pub until : GoesAlong tells limits first past mid
  pub since : GoesAlong tells limits mid after now
  pub none : turns_of caller after ≡ []
  pub shown : seen ≡ mid.history

-- A turn of a run: the call was answered by a step, between a run of the turns before it and one of those after it.
pub record IsTurn (limits : Limits) (first : State) (before : List Turn) (turn : Turn) (after : List Turn) (now : State) : Type 0 where
  pub old : State
  pub new : State
  pub until : GoesAlong true limits first before old
  pub step : Step limits old turn.0 turn.1 turn.2 new
  pub since : GoesAlong true limits new after now

-- where in a run a caller was told this, after and before what else
pub record IsTold (caller : ℕ) (front : Heard) (entry : Call × Reply) (back : Heard) (turns : List Turn) : Type 0 where
  pub before : List Turn
  pub after : List Turn
  pub turns_are : turns ≡ before ++ (caller, entry.0, entry.1) ∷ after
  pub front_is : turns_of caller before ≡ front
  pub back_is : turns_of caller after ≡ back
