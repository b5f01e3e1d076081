-- What work makes of a core.
use Rattle.std.specs.Prelude.{◌≡◌, ◌≢◌, List, [], ℕ, Bool, false, Result, Ok, Err}
use Rattle.mars_base.specs.declared.NoMemory.{NoMemory}
use Rattle.caller_steps.specs.Core.{CoreView, Continues}
use Rattle.caller_steps.specs.State.{State}
use Rattle.caller_steps.specs.Room.{Limits}
use Rattle.caller_steps.specs.Run.{Turn}
use Rattle.caller_steps.specs.Step.{Runs}
use Rattle.script_run.specs.declared.ended.Ended.{Ended}
use Rattle.script_run.specs.declared.ended.Ended.TheVariants.{MediaFault, NoMemory as EndedShort}

-- memory ran out in work that ended so
abbrev pub RanOut : Ended → Type 0
RanOut ended = ended ≡ EndedShort

-- Callers took turns, of which Does tells. The core lives on unless the work ended at a fault of the medium.
pub record TurnsOn (Does : Limits → List Turn → State → Type 0) (old : CoreView) (ended : Ended) (new : CoreView) : Type 0 where
  pub turns : List Turn
  pub runs : Runs old.limits old.state turns new.state
  pub does : Does old.limits turns new.state
  pub continues : Continues old new
  pub alive : ended ≢ MediaFault → new.state.is_dead ≡ false

-- that, or nothing was done and written
abbrev pub Works : (Ended → Limits → List Turn → State → Type 0) → CoreView → Result Ended NoMemory → Bool → List ℕ → CoreView → Type 0
Works Does old (Ok ended) cut text new = TurnsOn (Does ended) old ended new
Works Does old (Err none) cut text new = (cut ≡ false) × (text ≡ [])
