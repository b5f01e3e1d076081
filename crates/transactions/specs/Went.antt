-- Calls of one caller, one after another, and a refusal among them.
use Rattle.std.specs.Prelude.{ℕ, ◌≡◌, Bool, true, false, IsTrue, List, ◌∷◌, ◌++◌, map, All}
use Rattle.history.specs.declared.call.Call.{Call}
use Rattle.history.specs.declared.call.Call.TheVariants.{Table}
use Rattle.history.specs.declared.call.Reply.{Reply}
use Rattle.caller_steps.specs.Core.{CoreView}
use Rattle.caller_steps.specs.Run.{Turn, Heard}
use Rattle.caller_steps.specs.Step.{Runs}
use Rattle.transactions.specs.Told.{reply_of}
use Rattle.transactions.specs.declared.refusal.Refusal.{Refusal}
use Rattle.transactions.specs.declared.work.Stop.{Stop}
use Rattle.transactions.specs.declared.work.Stop.TheVariants.{Refused, GivenUp}

-- these calls of the caller, each with its reply, as turns of a run
abbrev pub turns_by : ℕ → Heard → List Turn
turns_by caller told = map (λ (entry : Call × Reply). (caller, entry.0, entry.1)) told

-- calls of the caller, and nothing else, led from one state to the other
pub record Went (caller : ℕ) (old new : CoreView) : Type 0 where
  pub told : Heard
  pub run : Runs old.limits old.state (turns_by caller told) new.state

-- a call within a transaction: one on a table or on saves
abbrev pub is_within : Call → Bool
is_within (Table call) = true
is_within call = false

-- so they did, each of them was a call within a transaction, and the limits are the same
pub record WentWithin (caller : ℕ) (old new : CoreView) : Type 0 where
  pub limits : new.limits ≡ old.limits
  pub told : Heard
  pub run : Runs old.limits old.state (turns_by caller told) new.state
  pub within : All (λ (entry : Call × Reply). IsTrue (is_within entry.0)) told

-- so they did, and one of them was answered with this refusal
pub record Refuses (caller : ℕ) (old new : CoreView) (refusal : Refusal) : Type 0 where
  pub before : Heard
  pub call : Call
  pub after : Heard
  pub run : Runs old.limits old.state (turns_by caller (before ++ (call, reply_of refusal) ∷ after)) new.state

-- a refusal is the core's, by such a call; it says nothing of a reason of the work's own
abbrev pub IsOfCore : {E : Type 0} → ℕ → CoreView → CoreView → Stop E → Type 0
IsOfCore caller old new (Refused refusal) = Refuses caller old new refusal
IsOfCore caller old new (GivenUp reason) = Unit {0}
