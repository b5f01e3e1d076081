-- What a core shows and what a step does.
use Rattle.std.specs.Prelude.{ℕ, ◌≡◌, Bool, IsTrue, IsFalse, List, ◌++◌, length}
use Rattle.mars_base.specs.Causes.{Rose}
use Rattle.mars_base.specs.Moments.{Elapses}
use Rattle.history.specs.Writes.{Table}
use Rattle.history.specs.declared.call.Call.{Call}
use Rattle.history.specs.declared.call.Reply.{Reply}
use Rattle.caller_steps.specs.State.{State}
use Rattle.caller_steps.specs.Room.{Limits}
use Rattle.caller_steps.specs.Step.{Step}
use Rattle.caller_steps.specs.Fate.{Moves, is_media}
use Rattle.caller_steps.specs.Cause.{ReplyCause}
use Rattle.caller_steps.specs.Prefix.{HasPrefixOf, Grows}
use Rattle.caller_steps.specs.Sound.{IsSound}

-- The limits of a core, its state, whether the data of a state shows it, how often its medium has failed, and the moment; whether a loss of power at some moment from a given one
-- on might have left an image; and whether an image opens with given records.
pub record CoreView : Type 1 where
  pub limits : Limits
  pub state : State
  pub shows : State → Type 0
  pub faults : ℕ
  pub moment : ℕ
  pub left_since : ℕ → List ℕ → Type 0
  pub opens : List ℕ → Table → Type 0

-- the prefix law: what might have been left since a moment opens with the records of the first transactions, at least so many
abbrev pub IsSafe : CoreView → ℕ → ℕ → Type 0
IsSafe core since least = (image : List ℕ) → core.left_since since image → HasPrefixOf core.opens core.state least image

-- A caller's call of a core. Each reply has its cause. A fault of the medium is reported as one, and no other reply hides it. If the core tells its
-- records, then the reply is that of the step, whatever a loss of power within the call leaves has all transactions that were committed before, and what may
-- be left now has the whole history. If the data showed the old state, then it shows the new one, unless the medium failed.
pub record Steps (tells : Bool) (caller : ℕ) (call : Call) (old new : CoreView) (reply : Reply) : Type 0 where
  pub limits : new.limits ≡ old.limits
  pub opens : (image : List ℕ) (table : Table) → old.opens image table → new.opens image table
  pub moves : Moves old.limits.callers old.state caller call reply new.state
  pub cause : ReplyCause old.limits old.state caller call reply
  pub failed : IsTrue (is_media reply) → Rose old.faults new.faults
  pub kept : IsFalse (is_media reply) → new.faults ≡ old.faults
  pub shows : (state : State) → (old.shows state → new.shows state) × (new.shows state → old.shows state)
  pub shown : IsTrue tells → (IsFalse old.state.is_dead → old.shows old.state) → IsFalse new.state.is_dead → new.shows new.state
  pub step : IsTrue tells → Step old.limits old.state caller call reply new.state
  pub time : IsTrue tells → Elapses old.moment new.moment old.left_since new.left_since (HasPrefixOf new.opens new.state (length old.state.history))
  pub now : IsTrue tells → IsSafe new new.moment (length new.state.history)

-- From a core to a later one: the limits, the names and the records at the opening are the same, and the history is extended, also with the
-- transaction in doubt. Each image that a loss of power might have left meanwhile opens with a prefix of it that has all that was committed
-- before. One that may be left now has all of it.
pub record Continues (old new : CoreView) : Type 0 where
  pub limits : new.limits ≡ old.limits
  pub names : new.state.names ≡ old.state.names
  pub base : new.state.base ≡ old.state.base
  pub opens : (image : List ℕ) (table : Table) → old.opens image table → new.opens image table
  pub grows : Grows old.state.history new.state.history
  pub doubtful : Grows (old.state.history ++ old.state.doubt) (new.state.history ++ new.state.doubt)
  pub sound : IsSound new.state
  pub time : Elapses old.moment new.moment old.left_since new.left_since (HasPrefixOf new.opens new.state (length old.state.history))
  pub now : IsSafe new new.moment (length new.state.history)
