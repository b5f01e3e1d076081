-- Where a call can be done, and what follows if it was.
use Rattle.std.proofs.Common.{◌≡◌, ◌⊎◌, ℕ, inl, inr, Bool, true, false, ◌&&◌, ◌||◌, Some, None, refl, sym, ap, ◌∙◌}
use Rattle.std.specs.Prelude.{IsTrue, IsFalse, not, is_some}
use Rattle.std.proofs.lemmas.Bool.{true≢false}
use Rattle.history.specs.Table.{Granted}
use Rattle.history.specs.declared.call.Call.{Call}
use Rattle.history.specs.declared.call.Call.TheVariants.{Begin, Control}
use Rattle.history.specs.declared.call.Control.TheVariants.{Settle, Purge}
use Rattle.history.specs.declared.call.TableCall.{TableCall}
use Rattle.history.specs.declared.call.TableCall.TheVariants.{Save, Back}
use Rattle.history.specs.declared.call.Reply.{Reply}
use Rattle.history.specs.declared.call.Reply.TheVariants.{NoTable, NoSave, SavesFull}
use Rattle.caller_steps.specs.State.{State, unoffered}
use Rattle.caller_steps.specs.Offers.{is_unoffered, takes_calls, is_engaged, may_do}
use Rattle.caller_steps.specs.Step.{may_ask}
use Rattle.caller_steps.specs.Fate.{is_refusal, is_media}

module _ (s : State) (caller : ℕ) where
  -- within a transaction that was not offered,
  pub takes_within : (calls : Granted) → s.offers caller ≡ unoffered → s.live caller ≡ Some calls → takes_calls s caller ≡ true
  takes_within calls un is = λ i. is_unoffered (un i) && is_some (is i)

  -- and outside of any
  pub free_outside : s.offers caller ≡ unoffered → s.live caller ≡ None → not (is_engaged s caller) ≡ true
  free_outside un none = λ i. not (is_some (none i) || not (is_unoffered (un i)))

  takes_none : is_unoffered (s.offers caller) ≡ false → takes_calls s caller ≡ false
  takes_none closed = ap (λ (b : Bool). b && is_some (s.live caller)) closed

  or_true : (b : Bool) → not (b || true) ≡ false
  or_true true = refl
  or_true false = refl

  free_none : is_unoffered (s.offers caller) ≡ false → not (is_engaged s caller) ≡ false
  free_none closed = ap (λ (b : Bool). not (is_some (s.live caller) || not b)) closed ∙ or_true (is_some (s.live caller))

  -- What is offered takes no call but its settle.
  pub able_closed : (call : Call) → IsFalse (is_unoffered (s.offers caller)) → IsTrue (may_do s caller call) → call ≡ Control Settle
  able_closed Begin closed able = absurd (true≢false (sym able ∙ free_none closed))
  able_closed (Control Purge) closed able = absurd (true≢false (sym able ∙ free_none closed))
  able_closed (Control Settle) closed able = refl
  able_closed _ closed able = absurd (true≢false (sym able ∙ takes_none closed))

  -- Without a transaction that takes calls there are three calls.
  pub able_takes : (call : Call) → IsTrue (may_do s caller call) → IsTrue (takes_calls s caller) ⊎ ((call ≡ Begin) ⊎ ((call ≡ Control Settle) ⊎ (call ≡ Control Purge)))
  able_takes Begin able = inr (inl refl)
  able_takes (Control Settle) able = inr (inr (inl refl))
  able_takes (Control Purge) able = inr (inr (inr refl))
  able_takes _ able = inl able

-- the refusal of a call that its transaction does not let be, or whose table is not there
abbrev pub refusal_of : TableCall → Reply
refusal_of Save = SavesFull
refusal_of (Back n) = NoSave n
refusal_of call = NoTable

pub ask_refusal : (s : State) (caller : ℕ) (call : TableCall) (reply : Reply) → may_ask s caller call (Some reply) → reply ≡ refusal_of call
ask_refusal s caller Save reply bad = bad.1
ask_refusal s caller (Back n) reply bad = bad.1
ask_refusal s caller call reply bad = bad.1

pub ask_passes : (s : State) (caller : ℕ) (call : TableCall) (reply : Reply) → may_ask s caller call None → may_ask s caller call (Some reply) → ⊥
ask_passes s caller Save reply pass bad = bad.0 pass
ask_passes s caller (Back n) reply pass bad = bad.0 pass
ask_passes s caller call reply pass bad = bad.0 pass

pub ask_plain : (call : TableCall) → (is_refusal (refusal_of call) ≡ true) × (is_media (refusal_of call) ≡ false)
ask_plain Save = (refl, refl)
ask_plain (Back n) = (refl, refl)
ask_plain call = (refl, refl)
