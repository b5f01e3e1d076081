-- Why a caller was told `Busy`: what each caller asked for.
use Rattle.std.specs.Prelude.{ℕ, ◌≡◌, ◌≢◌, ◌<◌, IsTrue, List, flat_map, Contains}
use Rattle.caller_steps.specs.Run.{Heard}
use Rattle.history.specs.Locks.{touches, clash}
use Rattle.history.specs.declared.call.Call.{Call}
use Rattle.history.specs.declared.call.Call.TheVariants.{Table}
use Rattle.history.specs.declared.call.TableCall.{TableCall}
use Rattle.history.specs.declared.call.Reply.{Reply}
use Rattle.history.specs.declared.call.Reply.TheVariants as says
use Rattle.history.specs.declared.locks.Mode.{Mode}
use Rattle.stripe_words.specs.Words.{Refuses}
use Rattle.mars_manager.specs.declared.view.Met.{Met}
use Rattle.mars_manager.specs.Locks.{locks}
use Rattle.mars_manager.specs.Asked.{IsStepOf}
use Rattle.caller_plans.specs.declared.plan.Plan.{Plan}

-- one of these steps of the pass n was refused for a call: it found the pass h in its way
pub record IsHit (names : List (List ℕ)) (n : ℕ) (call : Call) (h : ℕ) (steps : List Met) : Type 0 where
  pub step : Met
  pub asked : Mode
  pub there : Contains steps step
  pub locks_it : IsTrue (locks names call step.stripe asked)
  pub why : Refuses asked step.found n h

-- What the pass n was told at its calls, and the steps that it made for them on the words of stripes, where the tables have these names: each step
-- is for what one of the calls locks, and each `Busy` is that of a step.
pub record IsToldOf (names : List (List ℕ)) (n : ℕ) (told : Heard) (steps : List Met) : Type 0 where
  pub named : (step : Met) → Contains steps step → (entry : Call × Reply) × Contains told entry × IsStepOf names entry.0 step
  pub hits : (call : Call) (holder : ℕ) → Contains told (call, says.Busy holder) → IsHit names n call holder steps

-- the holder is another of so many callers and plans a call that touches a stripe of this one, one of the two for writing
pub record HasCause (callers : ℕ) (names : List (List ℕ)) (plans : ℕ → List Plan) (caller : ℕ) (call : TableCall) (holder : ℕ) : Type 0 where
  pub among : holder < callers
  pub other : holder ≢ caller
  pub its : TableCall
  pub planned : Contains (flat_map (λ (plan : Plan). plan.calls) (plans holder)) its
  pub stripe : ℕ
  pub clashes : IsTrue (clash (touches names call stripe) (touches names its stripe))

-- each `Busy` that a caller was told is the reply to a call on a table
abbrev pub AreOnTables : Heard → Type 0
AreOnTables told = (call : Call) (holder : ℕ) → Contains told (call, says.Busy holder) → (asked : TableCall) × (call ≡ Table asked)

-- so it is at each `Busy` that a caller was told, which is the reply to a call on a table
abbrev pub HaveCauses : ℕ → List (List ℕ) → (ℕ → List Plan) → ℕ → Heard → Type 0
HaveCauses callers names plans caller told = (call : Call) (holder : ℕ) → Contains told (call, says.Busy holder) → (asked : TableCall) × (call ≡ Table asked) × HasCause callers names plans caller asked holder
