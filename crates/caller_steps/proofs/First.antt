-- The locks come before the table and before all that the array refuses, except for a lack of memory.
use Rattle.std.proofs.Common.{◌≡◌, ℕ, inl, inr, Bool, true, false, Option, Some, ap, subst}
use Rattle.std.proofs.lemmas.Bool.{false≢true, both_ways}
use Rattle.history.specs.Table.{Granted}
use Rattle.history.specs.Locks.{has_table}
use Rattle.history.specs.declared.call.Call.TheVariants.{Table}
use Rattle.history.specs.declared.call.TableCall.{TableCall}
use Rattle.history.specs.declared.call.TableCall.TheVariants.{Save, Back}
use Rattle.history.specs.declared.call.Reply.{Reply}
use Rattle.caller_steps.specs.State as state
use Rattle.caller_steps.specs.State.{State, unoffered}
use Rattle.caller_steps.specs.Locked.{Blocks}
use Rattle.caller_steps.specs.Room.{Limits}
use Rattle.caller_steps.specs.Step.{Asks, StepOf, Step}
use Rattle.caller_steps.specs.Fate.{may_come_held}

module _ (limits : Limits) (old : State) (caller : ℕ) (new : State) (holder : ℕ) where
  abbrev IsLeft : Reply → Type 0
  IsLeft reply = (may_come_held reply ≡ true) × (new ≡ old)

  asks_held : (calls : Granted) (call : TableCall) (reply : Reply) → Blocks old caller call holder → Asks limits calls old caller call reply new → IsLeft reply
  asks_held calls call reply blocks (inl short) = (ap may_come_held short.0, short.1)
  asks_held calls call reply blocks (inr (inl held)) = (ap may_come_held held.2.0, held.2.1)
  asks_held calls call reply blocks (inr (inr (free, rest))) = absurd (free holder blocks)

  held_of : (dead : Bool) (calls : Granted) (call : TableCall) (reply : Reply) → has_table old.names call ≡ true → Blocks old caller call holder
      → StepOf limits dead unoffered (Some calls) old caller (Table call) reply new → IsLeft reply
  held_of true calls call reply there blocks s = (ap may_come_held s.0, s.1)
  held_of false calls Save reply there blocks s = absurd (false≢true blocks.1.1)
  held_of false calls (Back n) reply there blocks s = absurd (false≢true blocks.1.1)
  held_of false calls call reply there blocks (inl (bad, e)) = absurd (bad.0 there)
  held_of false calls call reply there blocks (inr (fine, a)) = asks_held calls call reply blocks a

  -- While another caller holds a stripe of a live caller's call, the reply is `Busy`, `Dead` or `NoMemory`, and nothing changes.
  pub locks_first : (calls : Granted) (call : TableCall) (reply : Reply) → old.offers caller ≡ unoffered → old.live caller ≡ Some calls → has_table old.names call ≡ true → Blocks old caller call holder → Step limits old caller (Table call) reply new → IsLeft reply
  locks_first calls call reply un is there blocks step = held_of old.is_dead calls call reply there blocks
      (subst (λ (x : state.Offer × Option Granted). StepOf limits old.is_dead x.0 x.1 old caller (Table call) reply new) (λ i. (un i, is i)) step.acts)
