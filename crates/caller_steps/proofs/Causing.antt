-- Causes of replies, one after another as the state refuses.
use Rattle.std.proofs.Common.{◌≡◌, ℕ, Bool, true, false, Option, Some, None, refl, sym, ap, subst}
use Rattle.std.specs.Prelude.{if◌then◌else◌}
use Rattle.history.specs.Locks.{has_table}
use Rattle.history.specs.declared.call.Call.{Call}
use Rattle.history.specs.declared.call.Call.TheVariants.{Table}
use Rattle.history.specs.declared.call.TableCall.{TableCall}
use Rattle.history.specs.declared.call.Reply.{Reply}
use Rattle.history.specs.declared.call.Reply.TheVariants as reply
use Rattle.caller_steps.specs.State.{State}
use Rattle.caller_steps.specs.Offers.{may_do}
use Rattle.caller_steps.specs.Room.{Limits}
use Rattle.caller_steps.specs.Cause.{saves_of, misplaced, save_refusal, table_refusal, or_else, asked_refusal, TableCause, CauseAfter, CallCause, ReplyCause}

module _ (limits : Limits) (s : State) (t : ℕ) (call : Call) where
  abbrev rest : Option Reply
  rest = asked_refusal s t call

  abbrev at : Bool → Bool → Option Reply → Reply → Type 0
  at dead may refused answer = CauseAfter (if dead then Some reply.Dead else (if may then refused else Some (misplaced call))) limits s t call answer

  -- the medium has failed
  pub dead_cause : s.is_dead ≡ true → ReplyCause limits s t call reply.Dead
  dead_cause dead = subst (λ (b : Bool). at b (may_do s t call) rest reply.Dead) (sym dead) refl

  -- the caller's transaction does not let the call be
  pub misplaced_cause : s.is_dead ≡ false → may_do s t call ≡ false → (answer : Reply) → answer ≡ misplaced call → ReplyCause limits s t call answer
  misplaced_cause alive may answer is = subst (λ (b : Bool). at b (may_do s t call) rest answer) (sym alive) (subst (λ (b : Bool). at false b rest answer) (sym may) is)

  module _ (alive : s.is_dead ≡ false) (may : may_do s t call ≡ true) where
    after_cause : (refused : Option Reply) (answer : Reply) → rest ≡ refused → CauseAfter refused limits s t call answer → ReplyCause limits s t call answer
    after_cause refused answer is cause =
        subst (λ (b : Bool). at b (may_do s t call) rest answer) (sym alive) (subst (λ (b : Bool). at false b rest answer) (sym may) (subst (λ (r : Option Reply). CauseAfter r limits s t call answer) (sym is) cause))

    -- what is no call on a table or on saves is not refused then
    pub plain_cause : asked_refusal s t call ≡ None → (answer : Reply) → CallCause limits s t call answer → ReplyCause limits s t call answer
    plain_cause is answer cause = after_cause None answer is cause

module _ (limits : Limits) (s : State) (t : ℕ) (asked : TableCall) (alive : s.is_dead ≡ false) (may : may_do s t (Table asked) ≡ true) where
  -- a save that is not there, or one too many
  pub save_cause : (answer : Reply) → save_refusal (saves_of s t) asked ≡ Some answer → ReplyCause limits s t (Table asked) answer
  save_cause answer is = after_cause limits s t (Table asked) alive may (Some answer) answer (ap (λ (o : Option Reply). or_else o (table_refusal s.names asked)) is) refl

  module _ (saves : save_refusal (saves_of s t) asked ≡ None) where
    over : (b : Bool) → has_table s.names asked ≡ b → asked_refusal s t (Table asked) ≡ (if b then None else Some reply.NoTable)
    over b is = λ i. or_else (saves i) (if is i then None else Some reply.NoTable)

    -- a table that is not there
    pub table_cause : has_table s.names asked ≡ false → ReplyCause limits s t (Table asked) reply.NoTable
    table_cause none = after_cause limits s t (Table asked) alive may (Some reply.NoTable) reply.NoTable (over false none) refl

    -- what the state does not refuse
    pub call_cause : has_table s.names asked ≡ true → (answer : Reply) → TableCause limits s t asked answer → ReplyCause limits s t (Table asked) answer
    call_cause there answer cause = after_cause limits s t (Table asked) alive may None answer (over true there) cause
