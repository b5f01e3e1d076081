-- Why calls are answered so, by what the seats and the records said.
use Rattle.std.proofs.Common.{◌≡◌, ◌⊎◌, ℕ, inl, inr, Bool, true, false, ◌&&◌, ◌||◌, nat_lt, nat_le, length, ◌+◌, IsTrue, Some, None, Result, Err, refl, sym, ap, subst, ◌∙◌, lt-ltb, le-leb, arith}
use Rattle.std.specs.Prelude.{◌-◌, if◌then◌else◌, is_some, not, IsErrOf}
use Rattle.std.proofs.lemmas.Bool.{true≢false, false≢true, ltb-true, leb-true}
use Rattle.eaw_face.specs.Causes.{IsAlive}
use Rattle.page_store.specs.Index as below
use Rattle.page_store.specs.Shown.{PagesView}
use Rattle.history.specs.declared.call.Call.{Call}
use Rattle.history.specs.declared.call.Call.TheVariants.{Begin, Table as OnTable, Control}
use Rattle.history.specs.declared.call.TableCall.{TableCall}
use Rattle.history.specs.declared.call.TableCall.TheVariants.{Get, Put, Del, Scan, Save, Back}
use Rattle.history.specs.declared.call.Control.TheVariants.{Settle, Purge}
use Rattle.history.specs.declared.call.Reply.{Reply}
use Rattle.history.specs.declared.call.Reply.TheVariants as reply
use Rattle.record_table.specs.Causes.{Cause, IsSought, MayLack}
use Rattle.record_table.specs.Causes as table_causes
use Rattle.record_table.specs.Faults.{reply_to}
use Rattle.record_table.specs.declared.fault.TableFault.{TableFault}
use Rattle.record_table.specs.declared.fault.TableFault.TheVariants.{SlotsFull, PagesFull, SavesFull, LogFull, Media, Dead, Damaged, NoMemory}
use Rattle.caller_steps.specs.State as state
use Rattle.caller_steps.specs.State.{State, unoffered, offered, unsettled}
use Rattle.caller_steps.specs.Offers.{may_do, is_unoffered, offerers, number_among}
use Rattle.caller_steps.specs.Locked.{IsFree}
use Rattle.caller_steps.specs.Room.{Limits}
use Rattle.caller_steps.specs.Step.{StepOf, uses_index}
use Rattle.caller_steps.specs.Fate.{is_refusal}
use Rattle.caller_steps.specs.Cause.{saves_of, misplaced, save_refusal, IsOfKind, MayMeet, TableCause, CommitCause, SettleCause, ReplyCause}
use Rattle.caller_steps.proofs.Causing.{misplaced_cause, plain_cause}
use Rattle.mars_core.specs.Over.{limits_of}
use Rattle.mars_core.specs.Works.{HasSaves, IsSaveRefusal}
use Rattle.mars_core.proofs.Touching.{both}

-- a call has the saves that it needs
pub no_refusal : (saves : ℕ) (call : TableCall) → HasSaves saves call → save_refusal saves call ≡ None
no_refusal saves Save has = ap (λ (b : Bool). if b then None else Some reply.SavesFull) (lt-ltb saves 32 has)
no_refusal saves (Back n) has = ap (λ (b : Bool). if b then None else Some (reply.NoSave n)) ((λ i. lt-ltb 0 n has.0 i && nat_le n saves) ∙ le-leb n saves has.1)
no_refusal saves _ has = refl

not_true : (b : Bool) → (b ≡ true → ⊥) → b ≡ false
not_true true never = absurd (never refl)
not_true false never = refl

-- it has not
pub is_refused : (saves : ℕ) (call : TableCall) (answer : Reply) → IsSaveRefusal saves call answer → save_refusal saves call ≡ Some answer
is_refused saves Save answer refused =
    ap (λ (b : Bool). if b then None else Some reply.SavesFull) (not_true (nat_lt saves 32) (λ less. (let low = ltb-true saves 32 less in omega (arith, low, refused.0)))) ∙ ap (λ (r : Reply). Some r) (sym refused.1)
is_refused saves (Back n) answer refused =
    ap (λ (b : Bool). if b then None else Some (reply.NoSave n)) (not_true (nat_lt 0 n && nat_le n saves) (λ there. (let parts = both (nat_lt 0 n) (nat_le n saves) there in refused.0 (ltb-true 0 n parts.0, leb-true n saves parts.1))))
    ∙ ap (λ (r : Reply). Some r) (sym refused.1)
is_refused saves (Get name key) answer refused = absurd refused
is_refused saves _ answer refused = absurd refused

-- granted where nobody stands in its way
pub granted_cause : (limits : Limits) (s : State) (t : ℕ) (call : TableCall) (answer : Reply) → IsFree s t call → is_refusal answer ≡ false → IsOfKind (saves_of s t) call answer → TableCause limits s t call answer
granted_cause limits s t call reply.NoMemory free granted kind = tt
granted_cause limits s t call (reply.Busy holder) free granted kind = absurd (true≢false granted)
granted_cause limits s t call _ free granted kind = (free, inl kind)

put_meets : (limits : Limits) (call : TableCall) (n : ℕ) → table_causes.IsPut (OnTable call) → (n ≡ limits.slots → MayMeet limits call (reply.SlotsFull n)) × (n ≡ limits.index_pages - 1 → MayMeet limits call (reply.PagesFull n))
put_meets limits (Put name key value) n is = (λ e. e, λ e. e)
put_meets limits _ n is = absurd is

log_meets : (index : below.Index) (p : PagesView) (t : ℕ) (call : TableCall) (g h n : ℕ) → MayLack p g h n t (OnTable call) → MayMeet (limits_of index p.store.shape p.store.depth) call (reply.LogFull g h n)
log_meets index p t (Put name key value) g h n lacks = (lacks.2.logger, lacks.0, lacks.2.full)
log_meets index p t (Del name key) g h n lacks = (lacks.2.logger, lacks.0, lacks.2.full)
log_meets index p t _ g h n lacks = absurd lacks

sought_uses : (call : TableCall) → IsSought (OnTable call) → uses_index call ≡ true
sought_uses (Get name key) is = refl
sought_uses (Put name key value) is = refl
sought_uses (Del name key) is = refl
sought_uses (Scan name low high) is = refl
sought_uses _ is = absurd is

-- refused by the records
pub fault_cause : (tells : Bool) (index : below.Index) (table : ℕ) (p : PagesView) (s : State) (t : ℕ) (call : TableCall) → IsAlive p.store → (table_causes.IsSavedOut p t (OnTable call) → ⊥) → IsFree s t call
    → (f : TableFault) → (let r : Result Reply TableFault = Err f in Cause tells index table t (OnTable call) p r) → (let r : Result Reply TableFault = Err f in IsErrOf r Media → IsTrue (uses_index call)) → TableCause (limits_of index p.store.shape p.store.depth) s t call (reply_to f)
fault_cause tells index table p s t call alive saved free (SlotsFull n) cause due = (free, inr ((put_meets (limits_of index p.store.shape p.store.depth) call n cause.1).0 cause.2))
fault_cause tells index table p s t call alive saved free (PagesFull n) cause due = (free, inr ((put_meets (limits_of index p.store.shape p.store.depth) call n cause.1).1 cause.2))
fault_cause tells index table p s t call alive saved free (LogFull g h n) cause due = (free, inr (log_meets index p t call g h n cause.1))
fault_cause tells index table p s t call alive saved free SavesFull cause due = absurd (saved cause.1)
fault_cause tells index table p s t call alive saved free Media cause due = (free, inr (due refl))
fault_cause tells index table p s t call alive saved free Dead cause due = absurd (false≢true (sym alive ∙ cause))
fault_cause tells index table p s t call alive saved free (Damaged page) cause due = (free, inr (sought_uses call cause.1))
fault_cause tells index table p s t call alive saved free NoMemory cause due = tt

-- a call outside of a transaction
pub absent_cause : (limits : Limits) (s : State) (t : ℕ) (call : Call) → s.is_dead ≡ false → s.live t ≡ None → s.offers t ≡ unoffered → (new : State) → StepOf limits false unoffered None s t call reply.NoTransaction new → ReplyCause limits s t call reply.NoTransaction
absent_cause limits s t call alive none un new at = go call at
  where
    none_takes : (is_unoffered (s.offers t) && is_some (s.live t)) ≡ false
    none_takes = λ i. is_unoffered (un i) && is_some (none i)

    none_offered : not (is_unoffered (s.offers t)) ≡ false
    none_offered = λ i. not (is_unoffered (un i))

    go : (call : Call) → StepOf limits false unoffered None s t call reply.NoTransaction new → ReplyCause limits s t call reply.NoTransaction
    go Begin at = absurd (let e = at.0 in cc)
    go (Control Purge) (inl (n, is, purges)) = absurd (cc)
    go (Control Purge) (inr (is, index, fails)) = absurd (cc)
    go (Control Settle) at = misplaced_cause limits s t (Control Settle) alive none_offered reply.NoTransaction refl
    go (OnTable asked) at = misplaced_cause limits s t (OnTable asked) alive none_takes reply.NoTransaction refl
    go (Control ends) at = misplaced_cause limits s t (Control ends) alive none_takes reply.NoTransaction refl

-- a begin or a purge within one
pub within_cause : (limits : Limits) (s : State) (t : ℕ) (call : Call) → s.is_dead ≡ false → (engaged : (is_some (s.live t) || not (is_unoffered (s.offers t))) ≡ true) → (call ≡ Begin) ⊎ (call ≡ Control Purge) → ReplyCause limits s t call reply.Already
within_cause limits s t call alive engaged (inl begin) = subst (λ (c : Call). ReplyCause limits s t c reply.Already) (sym begin) (misplaced_cause limits s t Begin alive (ap not engaged) reply.Already refl)
within_cause limits s t call alive engaged (inr purge) = subst (λ (c : Call). ReplyCause limits s t c reply.Already) (sym purge) (misplaced_cause limits s t (Control Purge) alive (ap not engaged) reply.Already refl)

-- a settle of what was offered
pub settle_cause : (limits : Limits) (s : State) (t : ℕ) → s.is_dead ≡ false → s.offers t ≡ offered → (answer : Reply) → CommitCause (number_among (length s.history + 1) (offerers limits.callers s) t) answer → ReplyCause limits s t (Control Settle) answer
settle_cause limits s t alive has answer cause = plain_cause limits s t (Control Settle) alive (ap (λ (o : state.Offer). not (is_unoffered o)) has) refl answer (subst (λ (o : state.Offer). SettleCause limits o s t answer) (sym has) cause)

-- and of what a group has committed
pub told_cause : (limits : Limits) (s : State) (t : ℕ) → s.is_dead ≡ false → (n : ℕ) → s.offers t ≡ unsettled n → ReplyCause limits s t (Control Settle) (reply.Committed n)
told_cause limits s t alive n has = plain_cause limits s t (Control Settle) alive (ap (λ (o : state.Offer). not (is_unoffered o)) has) refl (reply.Committed n) (subst (λ (o : state.Offer). SettleCause limits o s t (reply.Committed n)) (sym has) refl)

or_is : (b c : Bool) → c ≡ true → (b || c) ≡ true
or_is true c e = refl
or_is false c e = e

-- before its settle a caller does nothing else
pub closed_may : (s : State) (t : ℕ) (offer : state.Offer) → s.offers t ≡ offer → is_unoffered offer ≡ false → (asked : Call) → (asked ≡ Control Settle → ⊥) → may_do s t asked ≡ false
closed_may s t offer has closed asked settle = go asked settle
  where
    shut : is_unoffered (s.offers t) ≡ false
    shut = ap is_unoffered has ∙ closed

    engaged : not (is_some (s.live t) || not (is_unoffered (s.offers t))) ≡ false
    engaged = ap not (or_is (is_some (s.live t)) (not (is_unoffered (s.offers t))) (ap not shut))

    takes : (is_unoffered (s.offers t) && is_some (s.live t)) ≡ false
    takes = ap (λ (b : Bool). b && is_some (s.live t)) shut

    go : (asked : Call) → (asked ≡ Control Settle → ⊥) → may_do s t asked ≡ false
    go Begin never = engaged
    go (Control Purge) never = engaged
    go (Control Settle) never = absurd (never refl)
    go _ never = takes

pub misplaced_is : (asked : Call) → (asked ≡ Begin → ⊥) → (asked ≡ Control Purge → ⊥) → reply.NoTransaction ≡ misplaced asked
misplaced_is Begin begin purge = absurd (begin refl)
misplaced_is (Control Purge) begin purge = absurd (purge refl)
misplaced_is _ begin purge = refl
