-- What causes of replies say.
use Rattle.std.proofs.Common.{◌≡◌, ◌⊎◌, ℕ, inl, inr, Bool, true, false, [], Option, Some, None, unwrap_or, refl, sym, ap, subst, ◌∙◌}
use Rattle.std.specs.Prelude.{if◌then◌else◌}
use Rattle.std.proofs.lemmas.Bool.{true≢false, false≢true}
use Rattle.history.specs.Table.{Granted}
use Rattle.history.specs.Locks.{has_table, Meets, touches}
use Rattle.history.proofs.Modes.{clash_none}
use Rattle.history.specs.declared.call.Call.{Call}
use Rattle.history.specs.declared.call.Call.TheVariants.{Begin, Table, Control}
use Rattle.history.specs.declared.call.TableCall.{TableCall}
use Rattle.history.specs.declared.call.TableCall.TheVariants.{Get, Put, Del, Scan, Save, Back}
use Rattle.history.specs.declared.call.Control.TheVariants.{Commit, Abort, Offer, Settle, Purge}
use Rattle.history.specs.declared.call.Reply.{Reply}
use Rattle.history.specs.declared.call.Reply.TheVariants as reply
use Rattle.caller_steps.specs.State as state
use Rattle.caller_steps.specs.State.{State, unoffered, offered, unsettled}
use Rattle.caller_steps.specs.Offers.{may_do}
use Rattle.caller_steps.specs.Locked.{IsFree, IsBusyWith, finds_table}
use Rattle.caller_steps.specs.Room.{Limits}
use Rattle.caller_steps.specs.Fate.{is_refusal}
use Rattle.caller_steps.specs.Cause.{saves_of, misplaced, save_refusal, table_refusal, or_else, asked_refusal, is_of_state, refusal_in, IsOfKind, MayMeet, TableCause, CommitCause, SettleCause, ClearCause, CauseAfter, CallCause, ReplyCause}

some_is : {A : Type 0} (x y : A) → (let o : Option A = Some x in o ≡ Some y) → x ≡ y
some_is x y e = cc

-- a refusal of the state is one of its kind
misplaced_own : (call : Call) → is_of_state (misplaced call) ≡ true
misplaced_own Begin = refl
misplaced_own (Control Purge) = refl
misplaced_own _ = refl

if_none : (b : Bool) (r refusal : Reply) → (if b then None else Some r) ≡ Some refusal → refusal ≡ r
if_none true r refusal e = absurd (cc)
if_none false r refusal e = sym (some_is r refusal e)

save_own : (saves : ℕ) (call : TableCall) (refusal : Reply) → save_refusal saves call ≡ Some refusal → is_of_state refusal ≡ true
save_own saves Save refusal e = ap is_of_state (if_none _ reply.SavesFull refusal e)
save_own saves (Back n) refusal e = ap is_of_state (if_none _ (reply.NoSave n) refusal e)
save_own saves _ refusal e = absurd (cc)

module _ (s : State) (t : ℕ) where
  or_own : (call : TableCall) (first : Option Reply) → save_refusal (saves_of s t) call ≡ first → (refusal : Reply) → or_else first (table_refusal s.names call) ≡ Some refusal → is_of_state refusal ≡ true
  or_own call None is refusal e = ap is_of_state (if_none (has_table s.names call) reply.NoTable refusal e)
  or_own call (Some r) is refusal e = ap is_of_state (sym (some_is r refusal e)) ∙ save_own (saves_of s t) call r is

  asked_own : (call : Call) (refusal : Reply) → asked_refusal s t call ≡ Some refusal → is_of_state refusal ≡ true
  asked_own (Table asked) refusal e = or_own asked (save_refusal (saves_of s t) asked) refl refusal e
  asked_own _ refusal e = absurd (cc)

  pub refusal_own : (call : Call) (refusal : Reply) → refusal_in s t call ≡ Some refusal → is_of_state refusal ≡ true
  refusal_own call refusal e = go s.is_dead (may_do s t call) e
    where
      go : (dead may : Bool) → (if dead then Some reply.Dead else (if may then asked_refusal s t call else Some (misplaced call))) ≡ Some refusal → is_of_state refusal ≡ true
      go true may e = ap is_of_state (sym (some_is reply.Dead refusal e))
      go false true e = asked_own call refusal e
      go false false e = ap is_of_state (sym (some_is (misplaced call) refusal e)) ∙ misplaced_own call

-- what is answered to a call that the state does not refuse is none of these
kind_else : (saves : ℕ) (call : TableCall) (answer : Reply) → IsOfKind saves call answer → is_of_state answer ≡ false
kind_else saves (Get name key) (reply.Found value) kind = refl
kind_else saves (Get name key) reply.Absent kind = refl
kind_else saves (Get name key) _ kind = absurd kind
kind_else saves (Put name key value) reply.Fine kind = refl
kind_else saves (Put name key value) _ kind = absurd kind
kind_else saves (Del name key) reply.Fine kind = refl
kind_else saves (Del name key) reply.Absent kind = refl
kind_else saves (Del name key) _ kind = absurd kind
kind_else saves (Scan name low high) (reply.Listed rows) kind = refl
kind_else saves (Scan name low high) _ kind = absurd kind
kind_else saves Save (reply.Saved n) kind = refl
kind_else saves Save _ kind = absurd kind
kind_else saves (Back n) reply.Fine kind = refl
kind_else saves (Back n) _ kind = absurd kind

meet_else : (limits : Limits) (call : TableCall) (answer : Reply) → MayMeet limits call answer → is_of_state answer ≡ false
meet_else limits call reply.Media meets = refl
meet_else limits call (reply.Damaged page) meets = refl
meet_else limits call (reply.SlotsFull n) meets = refl
meet_else limits call (reply.PagesFull n) meets = refl
meet_else limits call (reply.LogFull g h n) meets = refl
meet_else limits (Put name key value) _ meets = absurd meets
meet_else limits (Del name key) _ meets = absurd meets
meet_else limits (Get name key) _ meets = absurd meets
meet_else limits (Scan name low high) _ meets = absurd meets
meet_else limits Save _ meets = absurd meets
meet_else limits (Back n) _ meets = absurd meets

commit_else : (number : ℕ) (answer : Reply) → CommitCause number answer → is_of_state answer ≡ false
commit_else number (reply.Committed n) cause = refl
commit_else number reply.NoMemory cause = refl
commit_else number reply.Media cause = refl
commit_else number _ cause = absurd cause

settle_else : (limits : Limits) (offer : state.Offer) (s : State) (t : ℕ) (answer : Reply) → SettleCause limits offer s t answer → is_of_state answer ≡ false
settle_else limits unoffered s t answer cause = absurd cause
settle_else limits offered s t answer cause = commit_else _ answer cause
settle_else limits (unsettled n) s t answer cause = ap is_of_state cause

clear_else : (answer : Reply) → ClearCause answer → is_of_state answer ≡ false
clear_else (reply.Purged n) cause = refl
clear_else reply.Media cause = refl
clear_else (reply.Damaged page) cause = refl
clear_else _ cause = absurd cause

module _ (limits : Limits) (s : State) (t : ℕ) where
  -- of a call on the table: no memory, the lowest holder, or nobody stands in its way
  table_says : (call : TableCall) (answer : Reply) → TableCause limits s t call answer → (answer ≡ reply.NoMemory) ⊎ (((h : ℕ) × (answer ≡ reply.Busy h) × IsBusyWith s t call h) ⊎ (IsFree s t call × (IsOfKind (saves_of s t) call answer ⊎ MayMeet limits call answer)))
  table_says call reply.NoMemory cause = inl refl
  table_says call (reply.Busy h) cause = inr (inl (h, refl, cause))
  table_says call _ cause = inr (inr cause)

  table_else : (call : TableCall) (answer : Reply) → TableCause limits s t call answer → is_of_state answer ≡ false
  table_else call answer cause = elim (table_says call answer cause) [
    | inl e ↦ ap is_of_state e
    | inr (inl held) ↦ ap is_of_state held.1
    | inr (inr (free, inl kind)) ↦ kind_else (saves_of s t) call answer kind
    | inr (inr (free, inr meets)) ↦ meet_else limits call answer meets
  ]

  call_else : (call : Call) (answer : Reply) → CallCause limits s t call answer → is_of_state answer ≡ false
  call_else Begin answer cause = ap is_of_state cause
  call_else (Table asked) answer cause = table_else asked answer cause
  call_else (Control Abort) answer cause = ap is_of_state cause
  call_else (Control Offer) answer cause = ap is_of_state cause
  call_else (Control Commit) answer cause = commit_else _ answer cause
  call_else (Control Settle) answer cause = settle_else limits (s.offers t) s t answer cause
  call_else (Control Purge) answer cause = clear_else answer cause

  -- what the state refuses is refused so, and only then
  pub refused_so : (call : Call) (refusal answer : Reply) → refusal_in s t call ≡ Some refusal → ReplyCause limits s t call answer → answer ≡ refusal
  refused_so call refusal answer is cause = subst (λ (r : Option Reply). CauseAfter r limits s t call answer) is cause

  pub refused_only : (call : Call) (answer : Reply) → is_of_state answer ≡ true → ReplyCause limits s t call answer → refusal_in s t call ≡ Some answer
  refused_only call answer own cause = go (refusal_in s t call) refl cause
    where
      go : (r : Option Reply) → refusal_in s t call ≡ r → CauseAfter r limits s t call answer → refusal_in s t call ≡ Some answer
      go (Some refusal) is e = is ∙ ap (λ (x : Reply). Some x) (sym e)
      go None is cause = absurd (true≢false (sym own ∙ call_else call answer cause))

  -- a reply that is none of these comes where the state does not refuse
  pub allowed : (call : Call) (answer : Reply) → is_of_state answer ≡ false → ReplyCause limits s t call answer → (refusal_in s t call ≡ None) × CallCause limits s t call answer
  allowed call answer other cause = go (refusal_in s t call) refl cause
    where
      go : (r : Option Reply) → refusal_in s t call ≡ r → CauseAfter r limits s t call answer → (refusal_in s t call ≡ None) × CallCause limits s t call answer
      go (Some refusal) is e = absurd (false≢true (sym other ∙ ap is_of_state e ∙ refusal_own s t call refusal is))
      go None is cause = (is, cause)

  -- a holder is named only where there is one
  pub busy_cause : (call : Call) (h : ℕ) → ReplyCause limits s t call (reply.Busy h) → (asked : TableCall) × (call ≡ Table asked) × IsBusyWith s t asked h
  busy_cause call h cause = go call (allowed call (reply.Busy h) refl cause).1
    where
      none : (offer : state.Offer) → SettleCause limits offer s t (reply.Busy h) → ⊥
      none unoffered cause = cause
      none offered cause = cause
      none (unsettled n) cause = cc

      go : (call : Call) → CallCause limits s t call (reply.Busy h) → (asked : TableCall) × (call ≡ Table asked) × IsBusyWith s t asked h
      go Begin cause = absurd (cc)
      go (Table asked) cause = (asked, refl, cause)
      go (Control Abort) cause = absurd (cc)
      go (Control Offer) cause = absurd (cc)
      go (Control Commit) cause = absurd cause
      go (Control Settle) cause = absurd (none (s.offers t) cause)
      go (Control Purge) cause = absurd cause

  -- what is not refused: the medium has not failed, the caller's transaction lets it be, and its table is there
  there_asked : (call : Call) → asked_refusal s t call ≡ None → finds_table s.names call ≡ true
  there_asked (Table asked) is = go (save_refusal (saves_of s t) asked) (has_table s.names asked) refl is
    where
      go : (saves : Option Reply) (there : Bool) → has_table s.names asked ≡ there → or_else saves (if there then None else Some reply.NoTable) ≡ None → has_table s.names asked ≡ true
      go (Some r) there b e = absurd (cc)
      go None false b e = absurd (cc)
      go None true b e = b
  there_asked _ is = refl

  pub not_refused : (call : Call) → refusal_in s t call ≡ None → (s.is_dead ≡ false) × ((may_do s t call ≡ true) × (finds_table s.names call ≡ true))
  not_refused call is = go s.is_dead (may_do s t call) refl refl is
    where
      go : (dead may : Bool) → s.is_dead ≡ dead → may_do s t call ≡ may → (if dead then Some reply.Dead else (if may then asked_refusal s t call else Some (misplaced call))) ≡ None
          → (s.is_dead ≡ false) × ((may_do s t call ≡ true) × (finds_table s.names call ≡ true))
      go true may d m e = absurd (cc)
      go false false d m e = absurd (cc)
      go false true d m e = (d, (m, there_asked call e))

  granted_else : (answer : Reply) → is_refusal answer ≡ false → is_of_state answer ≡ false
  granted_else reply.Dead e = absurd (true≢false e)
  granted_else reply.Already e = absurd (true≢false e)
  granted_else reply.NoTransaction e = absurd (true≢false e)
  granted_else (reply.NoSave n) e = absurd (true≢false e)
  granted_else reply.SavesFull e = absurd (true≢false e)
  granted_else reply.NoTable e = absurd (true≢false e)
  granted_else _ e = refl

  -- a granted call is on a table that is there,
  pub granted_there : (call : Call) (answer : Reply) → is_refusal answer ≡ false → ReplyCause limits s t call answer → finds_table s.names call ≡ true
  granted_there call answer granted cause = (not_refused call (allowed call answer (granted_else answer granted) cause).0).1.1

  -- and nobody stands in its way
  pub granted_free : (asked : TableCall) (answer : Reply) → is_refusal answer ≡ false → ReplyCause limits s t (Table asked) answer → IsFree s t asked
  granted_free asked answer granted cause = elim (table_says asked answer (allowed (Table asked) answer (granted_else answer granted) cause).1) [
    | inl e ↦ absurd (false≢true (sym granted ∙ ap is_refusal e))
    | inr (inl held) ↦ absurd (false≢true (sym granted ∙ ap is_refusal held.1))
    | inr (inr free) ↦ free.0
  ]

-- and so nowhere, while nobody has a transaction
pub nobody_holds : (limits : Limits) (old : State) (caller holder : ℕ) (call : Call) → ((other : ℕ) → old.live other ≡ None) → ReplyCause limits old caller call (reply.Busy holder) → ⊥
nobody_holds limits old caller holder call none cause =
    let busy = busy_cause limits old caller call holder cause in
    let meets : Meets old.names busy.0 [] = subst (λ (calls : Granted). Meets old.names busy.0 calls) (ap (λ (o : Option Granted). unwrap_or o []) (none holder)) busy.2.0.1 in
    false≢true (sym (clash_none (touches old.names busy.0 meets.0)) ∙ meets.1)
