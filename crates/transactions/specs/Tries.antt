-- Tries of a transaction that was refused as busy.
use Rattle.std.specs.Prelude.{ℕ, ◌≤◌, Bool, true, false, Result, Err}
use Rattle.std.specs.List.{count_by}
use Rattle.history.specs.declared.call.Call.{Call}
use Rattle.history.specs.declared.call.Call.TheVariants.{Begin}
use Rattle.history.specs.declared.call.Reply.{Reply}
use Rattle.caller_steps.specs.Core.{CoreView}
use Rattle.caller_steps.specs.Fate.{is_busy}
use Rattle.caller_steps.specs.Run.{Heard}
use Rattle.caller_steps.specs.Step.{Runs}
use Rattle.transactions.specs.Went.{turns_by}
use Rattle.transactions.specs.declared.refusal.Refusal.TheVariants.{Busy}
use Rattle.transactions.specs.declared.work.Stop.{Stop}
use Rattle.transactions.specs.declared.work.Stop.TheVariants.{Refused}

abbrev pub is_begin : Call → Bool
is_begin Begin = true
is_begin call = false

-- calls of the caller, and nothing else, led from one state to the other, and at most so many of them were begins: one for each try
pub record WentTries (n caller : ℕ) (old new : CoreView) : Type 0 where
  pub told : Heard
  pub run : Runs old.limits old.state (turns_by caller told) new.state
  pub few : count_by (λ (entry : Call × Reply). is_begin entry.0) told ≤ n

-- calls of the caller, and nothing else, led from one state to the other, and at least so many of them were refused as busy
pub record WentBusy (n caller : ℕ) (old new : CoreView) : Type 0 where
  pub told : Heard
  pub run : Runs old.limits old.state (turns_by caller told) new.state
  pub often : n ≤ count_by (λ (entry : Call × Reply). is_busy entry.1) told

-- it is given up as busy only after so many times
abbrev pub IsOften : {E : Type 0} → ℕ → ℕ → CoreView → CoreView → Stop E → Type 0
IsOften n caller old new (Refused (Busy holder)) = WentBusy n caller old new
IsOften n caller old new stop = Unit {0}

-- it was refused as busy
abbrev pub was_busy : {T E : Type 0} → Result T (Stop E) → Bool
was_busy (Err (Refused (Busy holder))) = true
was_busy outcome = false
