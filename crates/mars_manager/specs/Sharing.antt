-- What holds for a core while it is shared, and what a call does.
use Rattle.std.specs.Prelude.{ℕ, ◌≡◌, ◌≢◌, ◌≤◌, ◌⊎◌, Bool, false, IsTrue, MatchBool, List, [], ◌∷◌, ◌++◌, length, Some, None, unwrap_or}
use Rattle.mars_base.specs.Causes.{Rose}
use Rattle.atomic_table.specs.Seated.{TableId}
use Rattle.history.specs.Writes.{Table}
use Rattle.history.specs.Legal.{IsLegal}
use Rattle.history.specs.declared.transaction.Done.{Done}
use Rattle.history.specs.declared.call.Call.{Call}
use Rattle.history.specs.declared.call.Call.TheVariants.{Control}
use Rattle.history.specs.declared.call.Control.TheVariants.{Settle, Purge}
use Rattle.history.specs.declared.call.Reply.{Reply}
use Rattle.history.specs.declared.call.Reply.TheVariants.{Committed, Dead}
use Rattle.caller_steps.specs.Fate.{is_committed}
use Rattle.caller_steps.specs.Sound.{IsSound}
use Rattle.caller_steps.specs.Core.{CoreView, IsSafe, Steps, Continues}
use Rattle.caller_steps.specs.State.{unoffered, commits_of}
use Rattle.caller_steps.specs.Purging.{PurgeCause}
use Rattle.caller_steps.specs.Run.{Turn, GoesAlong, AreOf, LastTurn}
use Rattle.mars_manager.specs.declared.setup.Setup.{Setup}
use Rattle.mars_manager.specs.declared.view.Known.{Known}
use Rattle.mars_manager.specs.Locks.{with_locks}
use Rattle.mars_manager.specs.Pass.{PassView, AreSo, known_after, known_at, finds, tried, live_of, waits_of}

-- what contracts see of a shared core: its table and how it was shared
pub record MarsView (C : Type 0) : Type 0 where
  pub table : TableId
  pub setup : Setup C

-- A core that can be shared among so many callers: it has not failed, and nothing was done on it. If it tells its records, they are sound,
-- and what a loss of power may leave now opens with them.
pub record CanShare (tells : Bool) (callers : ℕ) (core : CoreView) : Type 0 where
  pub alive : core.state.is_dead ≡ false
  pub history : core.state.history ≡ []
  pub live : (caller : ℕ) → core.state.live caller ≡ None
  pub offers : (caller : ℕ) → core.state.offers caller ≡ unoffered
  pub enough : callers ≤ core.limits.callers
  pub sound : IsTrue tells → IsSound core.state
  pub now : IsTrue tells → IsSafe core core.moment 0

-- From the core that was shared to a later one: it has the same limits and the same records at the opening, and its medium has failed
-- exactly when it is dead. If it tells its records, it continues the first one, so the prefix law holds from each moment from which it held
-- before.
pub record Since (tells : Bool) (first core : CoreView) : Type 0 where
  pub limits : core.limits ≡ first.limits
  pub base : core.state.base ≡ first.state.base
  pub opens : (image : List ℕ) (table : Table) → first.opens image table → core.opens image table
  pub faults : MatchBool core.state.is_dead (Rose first.faults core.faults) (core.faults ≡ first.faults)
  pub continues : IsTrue tells → Continues first core

module _ {C : Type 0} where
  -- A call that got the turn is one step of a core that the shared one has come to by a run. Before it, the past of the pass was this run up
  -- to its last turn, and it had seen the history then. Now its past is the whole run with this call as the last turn, and it has seen the
  -- history after the step. So the run of each call of a pass begins with that of the call before.
  pub record Called (tells : Bool) (show : C → CoreView) (was : Known C) (call : Call) (reply : Reply) (now : Known C) : Type 0 where
    pub setup : Setup C
    pub turns : List Turn
    pub old : C
    pub new : C
    pub setup_is : was.setup ≡ Some setup
    pub since : Since tells (show setup.first) (show old)
    pub comes : Since tells (show setup.first) (show new)
    pub whose : AreOf setup.callers turns
    pub ready : CanShare tells setup.callers (show setup.first)
    pub last : LastTurn tells (show setup.first).limits was.number was.past was.seen (show setup.first).state turns (show old).state
    pub steps : Steps tells was.number call (show old) (show new) reply
    pub dead : IsTrue (show old).state.is_dead → (reply ≡ Dead) × (new ≡ old)
    pub purge : call ≡ Control Purge → PurgeCause (show old).state was.number reply
    pub after : now ≡ tried now.tries (with_locks now.holds now.met (known_after was turns (show new).state call reply))

  -- A pass has read the history of a core that the shared one has come to by a run. Before, its past was this run up to its last turn, and it
  -- had seen the history then. Now its past is the whole run, and it has seen the whole history. It has tried for the turn once.
  pub record Reads (tells : Bool) (show : C → CoreView) (was now : Known C) : Type 0 where
    pub setup : Setup C
    pub turns : List Turn
    pub core : C
    pub setup_is : was.setup ≡ Some setup
    pub since : Since tells (show setup.first) (show core)
    pub whose : AreOf setup.callers turns
    pub ready : CanShare tells setup.callers (show setup.first)
    pub last : LastTurn tells (show setup.first).limits was.number was.past was.seen (show setup.first).state turns (show core).state
    pub after : now ≡ known_at (finds 0 was) turns (show core).state

  -- The core that comes back was reached by a run of these callers, and what these passes know is true of it: the past of each is this one run
  -- up to its last turn.
  pub record AreGathered (tells : Bool) (show : C → CoreView) (setup : Setup C) (core : C) (passes : List (PassView C)) : Type 0 where
    pub turns : List Turn
    pub run : GoesAlong tells (show setup.first).limits (show setup.first).state turns (show core).state
    pub whose : AreOf setup.callers turns
    pub ready : CanShare tells setup.callers (show setup.first)
    pub each : AreSo tells show setup turns (show core).state passes

  -- what a pass has seen is a legal history on the records at the opening
  abbrev pub IsLegalIn : (C → CoreView) → Known C → Type 0
  IsLegalIn show known = (setup : Setup C) → known.setup ≡ Some setup → IsLegal (show setup.first).state.base known.seen

  -- the live transaction of a pass as one of the history, with this number, and with that of the last of its group
  abbrev pub settled_of : Known C → ℕ → ℕ → Done
  settled_of was at last = record { caller = was.number; calls = unwrap_or (live_of was) []; at = at; last = last }

  -- the same committed alone
  abbrev pub done_of : Known C → ℕ → Done
  done_of was at = settled_of was at at

  -- the transactions of its caller that a pass has seen
  abbrev pub mine_of : Known C → List Done
  mine_of known = commits_of known.number known.seen

  -- A commit: the last transaction that the pass has then seen is its caller's, with exactly its live calls, and it is the only new one
  -- among the caller's own. If the core tells its records, the reply has its number.
  pub record HasCommitted (tells : Bool) (was : Known C) (reply : Reply) (now : Known C) : Type 0 where
    pub before : List Done
    pub seen : now.seen ≡ before ++ done_of was (length now.seen) ∷ []
    pub mine : mine_of now ≡ mine_of was ++ done_of was (length now.seen) ∷ []
    pub told : IsTrue tells → reply ≡ Committed (length now.seen)

  -- A settle: the last among the caller's own is that which it has offered, with exactly its live calls; there may be others behind it in the
  -- history. Before, the pass had seen all of its own but this one, or also this one. If the core tells its records, the reply has its number.
  pub record HasSettled (tells : Bool) (was : Known C) (reply : Reply) (now : Known C) : Type 0 where
    pub at : ℕ
    pub last : ℕ
    pub before : List Done
    pub mine : mine_of now ≡ before ++ settled_of was at last ∷ []
    pub seen : (mine_of was ≡ before) ⊎ (mine_of was ≡ mine_of now)
    pub told : IsTrue tells → reply ≡ Committed at

  -- The caller's own transactions stay the same. Only while it waits for its settle may another's have committed the one that it has offered,
  -- which the pass then sees.
  abbrev pub SeesOwn : Known C → Known C → Type 0
  SeesOwn was now = (mine_of now ≡ mine_of was) ⊎ (IsTrue (waits_of was) × (at : ℕ) × (last : ℕ) × (mine_of now ≡ mine_of was ++ settled_of was at last ∷ []))

  -- What a reply says of the caller's own transactions. A pass that waits is told of a commit by its settle, and another by its commit.
  abbrev pub Commits : Bool → Known C → Call → Reply → Known C → Type 0
  Commits tells was call reply now = MatchBool (is_committed reply) (MatchBool (waits_of was) (HasSettled tells was reply now) (call ≢ Control Settle → HasCommitted tells was reply now)) (SeesOwn was now)
