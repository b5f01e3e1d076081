-- What passes have of the stripes covers what their live transactions touched.
use Rattle.std.proofs.Common.{◌≡◌, ◌≢◌, ◌⊎◌, ℕ, ◌+◌, ◌*◌, ◌%◌, ◌<◌, mod-lt, Bool, true, false, List, [], ◌∷◌, ◌++◌, get_or, Option, None, unwrap_or, refl, sym, ap, ◌∙◌, subst, inl, inr, ⊎_elim, arith}
use Rattle.std.specs.Prelude.{nat_eq, length, IsTrue, IsFalse}
use Rattle.record_slots.specs.Names.{number_of}
use Rattle.std.proofs.lemmas.Bool.{and_from, eqb-true, ltb-true, false≢true, or_cases, or_parts}
use mathlib.Core.Logic.{dite}
use mathlib.Core.Option.{some}
use native.Mathlib.Decide.{ℕ_discrete}
use lib.ListN.{get_elem?}
use Rattle.history.specs.Key.{of_table}
use Rattle.history.specs.Table.{Granted}
use Rattle.history.specs.Locks.{Touch, touches, touched, key_stripe, has_table, clash, is_touch}
use Rattle.history.proofs.Modes.{clash_parts}
use Rattle.history.specs.declared.call.Call.{Call}
use Rattle.history.specs.declared.call.Call.TheVariants.{Begin, Table, Control}
use Rattle.history.specs.declared.call.TableCall.{TableCall}
use Rattle.history.specs.declared.call.TableCall.TheVariants.{Get, Put, Del, Scan, Save, Back}
use Rattle.history.specs.declared.call.Control.TheVariants.{Offer, Settle, Purge}
use Rattle.history.specs.declared.call.Reply.{Reply}
use Rattle.history.specs.declared.locks.Mode.{Mode}
use Rattle.history.specs.declared.locks.Mode.TheVariants as mode
use Rattle.history.proofs.OneMore.{touched-push}
use Rattle.caller_steps.specs.State.{State, calls_of}
use Rattle.caller_steps.specs.Locked.{IsLocked, IsFree, finds_table}
use Rattle.caller_steps.specs.Own.{Own, KnowsLive}
use Rattle.caller_steps.specs.Offers.{takes_calls}
use Rattle.caller_steps.specs.Fate.{is_refusal, is_media, live_with, Stays, EndsWith, Moves}
use Rattle.caller_steps.proofs.Able.{able_takes}
use Rattle.stripe_words.specs.declared.hold.Hold.{Hold}
use Rattle.stripe_words.specs.declared.hold.Hold.TheVariants.{Free, Trying, Shared, Exclusive}
use Rattle.stripe_words.specs.Words.{granted, locked, Stands}
use Rattle.mars_manager.specs.declared.view.Known.{Known}
use Rattle.mars_manager.specs.declared.view.Met.{Met}
use Rattle.mars_manager.specs.declared.view.View.{View}
use Rattle.mars_manager.specs.Pass.{own_by, takes_of, names_of}
use Rattle.mars_manager.specs.Locks.{locks, IsCovered, hold_of}
use Rattle.mars_manager.specs.Rule.{Face, HasAlone, AllHave, AreLocked}
use Rattle.mars_manager.proofs.Waiting.{live_either, takes_own}

pub locked_granted : (x : Hold) → locked x ≡ 1 → granted x ≡ 1
locked_granted Free e = absurd (omega arith)
locked_granted Trying e = absurd (omega arith)
locked_granted Shared e = absurd (omega arith)
locked_granted Exclusive e = refl

-- nothing is touched by no call
pub covered_none : (names : List (List ℕ)) (holds : List Hold) → IsCovered (touched names []) holds
covered_none names holds = record { reads = λ t e. absurd (false≢true e); writes = λ t e. absurd (false≢true e) }

touched_parts : (names : List (List ℕ)) (calls : Granted) (call : TableCall) (reply : Reply) (t : ℕ) (m : Mode) → touched names (calls ++ (call, reply) ∷ []) t m ≡ true → (touched names calls t m ≡ true) ⊎ (touches names call t m ≡ true)
touched_parts names calls call reply t m e = or_cases (touched names calls t m) (touches names call t m) (sym (ap (λ (f : Touch). f m) (touched-push names calls call reply t)) ∙ e)

covered_more : (names : List (List ℕ)) (calls : Granted) (call : TableCall) (reply : Reply) (holds : List Hold) → IsCovered (touched names calls) holds → IsCovered (touches names call) holds → IsCovered (touched names (calls ++ (call, reply) ∷ [])) holds
covered_more names calls call reply holds a b = record {
  reads = λ t e. ⊎_elim (a.reads t) (b.reads t) (touched_parts names calls call reply t mode.Shared e);
  writes = λ t e. ⊎_elim (a.writes t) (b.writes t) (touched_parts names calls call reply t mode.Exclusive e);
}

-- what a call touches: only one on a table does
abbrev pub touching : List (List ℕ) → Call → ℕ → Touch
touching names (Table call) stripe mode = touches names call stripe mode
touching names call stripe mode = false

-- a call that was done
pub covered_with : (names : List (List ℕ)) (calls : Granted) (call : Call) (reply : Reply) (holds : List Hold) → IsCovered (touched names calls) holds → IsCovered (touching names call) holds → IsCovered (touched names (unwrap_or (live_with calls call reply) [])) holds
covered_with names calls (Table asked) reply holds a b = covered_more names calls asked reply holds a b
covered_with names calls (Control Offer) reply holds a b = a
covered_with names calls _ reply holds a b = covered_none names holds

-- what touches nothing is covered
uncovered : (touch : ℕ → Touch) (holds : List Hold) → ((t : ℕ) (m : Mode) → touch t m ≡ false) → IsCovered touch holds
uncovered touch holds none = record { reads = λ t e. absurd (false≢true (sym (none t mode.Shared) ∙ e)); writes = λ t e. absurd (false≢true (sym (none t mode.Exclusive) ∙ e)) }

untouching : (names : List (List ℕ)) (call : Call) (holds : List Hold) → (call ≡ Begin) ⊎ ((call ≡ Control Settle) ⊎ (call ≡ Control Purge)) → IsCovered (touching names call) holds
untouching names call holds (inl e) = subst (λ (c : Call). IsCovered (touching names c) holds) (sym e) (uncovered (touching names Begin) holds (λ t m. refl))
untouching names call holds (inr (inl e)) = subst (λ (c : Call). IsCovered (touching names c) holds) (sym e) (uncovered (touching names (Control Settle)) holds (λ t m. refl))
untouching names call holds (inr (inr e)) = subst (λ (c : Call). IsCovered (touching names c) holds) (sym e) (uncovered (touching names (Control Purge)) holds (λ t m. refl))

-- what covers what a call locks covers what it touches, if its table is there
covered_asked : (names : List (List ℕ)) (asked : TableCall) (holds : List Hold) → has_table names asked ≡ true → IsCovered (locks names (Table asked)) holds → IsCovered (touches names asked) holds
covered_asked names asked holds there c = record {
  reads = λ t e. c.reads t (and_from (has_table names asked) (touches names asked t mode.Shared) there e);
  writes = λ t e. c.writes t (and_from (has_table names asked) (touches names asked t mode.Exclusive) there e);
}

covered_locks : (names : List (List ℕ)) (call : Call) (holds : List Hold) → finds_table names call ≡ true → IsCovered (locks names call) holds → IsCovered (touching names call) holds
covered_locks names (Table asked) holds there c = covered_asked names asked holds there c
covered_locks names Begin holds there c = uncovered (touching names Begin) holds (λ t m. refl)
covered_locks names (Control control) holds there c = uncovered (touching names (Control control)) holds (λ t m. refl)

-- the call is covered if it was done: its table is there, and its caller's transaction takes calls, or it is a begin, a settle or a purge
pub covered_call : (names : List (List ℕ)) (call : Call) (takes : Bool) (holds : List Hold) → finds_table names call ≡ true → (IsTrue takes → IsCovered (locks names call) holds) → IsTrue takes ⊎ ((call ≡ Begin) ⊎ ((call ≡ Control Settle) ⊎ (call ≡ Control Purge))) → IsCovered (touching names call) holds
covered_call names call takes holds there a b = ⊎_elim (λ taking. covered_locks names call holds there (a taking)) (untouching names call holds) b

small_stripe : (names : List (List ℕ)) (name : List ℕ) (key t : ℕ) → nat_eq (key_stripe names (of_table name key)) t ≡ true → t < 64
small_stripe names name key t e = (let same = eqb-true (key_stripe names (of_table name key)) t e in let small : key_stripe names (of_table name key) < 64 = mod-lt (key % 64 + 8 * unwrap_or (number_of names name) (length names)) (omega arith) in omega arith)

-- only stripes are touched
pub small_touch : (names : List (List ℕ)) (call : TableCall) (t : ℕ) (m : Mode) → touches names call t m ≡ true → t < 64
small_touch names (Get name key) t mode.Shared e = small_stripe names name key t e
small_touch names (Get name key) t mode.Exclusive e = absurd (false≢true e)
small_touch names (Put name key value) t mode.Shared e = absurd (false≢true e)
small_touch names (Put name key value) t mode.Exclusive e = small_stripe names name key t e
small_touch names (Del name key) t mode.Shared e = absurd (false≢true e)
small_touch names (Del name key) t mode.Exclusive e = small_stripe names name key t e
small_touch names (Scan name low high) t mode.Shared e = ltb-true t 64 e
small_touch names (Scan name low high) t mode.Exclusive e = absurd (false≢true e)
small_touch names Save t m e = absurd (false≢true e)
small_touch names (Back save) t m e = absurd (false≢true e)

-- what a pass has that covers its call locks out all other live transactions
module _ {C : Type 0} (f : Face C) (core : C) (k : Known C) (call : TableCall) (alone : HasAlone f core k) (c : IsCovered (touches (f.show core).state.names call) k.holds) where
  no_clash : (h t : ℕ) → h ≢ k.number → (writes reads : Bool) → touches (f.show core).state.names call t mode.Exclusive ≡ writes → touches (f.show core).state.names call t mode.Shared ≡ reads
      → clash (touches (f.show core).state.names call t) (touched (f.show core).state.names (calls_of (f.show core).state h) t) ≡ true → ⊥
  no_clash h t ne writes reads w r e =
      let theirs : Touch = touched (f.show core).state.names (calls_of (f.show core).state h) t in
      ⊎_elim
      (λ (p : (touches (f.show core).state.names call t mode.Exclusive ≡ true) × (is_touch theirs ≡ true)). false≢true (sym (alone.writes t h (small_touch (f.show core).state.names call t mode.Exclusive p.0) ne (c.writes t p.0)) ∙ p.1))
      (λ (p : (is_touch (touches (f.show core).state.names call t) ≡ true) × (theirs mode.Exclusive ≡ true)).
      ⊎_elim
      (λ (read : touches (f.show core).state.names call t mode.Shared ≡ true). false≢true (sym (alone.reads t h (small_touch (f.show core).state.names call t mode.Shared read) ne (c.reads t read)) ∙ p.1))
      (λ (write : touches (f.show core).state.names call t mode.Exclusive ≡ true). false≢true (sym (alone.reads t h (small_touch (f.show core).state.names call t mode.Exclusive write) ne (locked_granted (hold_of t k) (c.writes t write))) ∙ p.1))
      (or_cases (touches (f.show core).state.names call t mode.Shared) (touches (f.show core).state.names call t mode.Exclusive) p.0))
      (clash_parts (touches (f.show core).state.names call t) theirs e)

module _ {C : Type 0} (f : Face C) (core : C) (k : Known C) where
  locked_asked : (asked : TableCall) → names_of k ≡ (f.show core).state.names → (IsFalse (f.show core).state.is_dead → HasAlone f core k) → (IsTrue (takes_of k) → IsCovered (locks (names_of k) (Table asked)) k.holds)
      → IsFalse (f.show core).state.is_dead → IsTrue (takes_calls (f.show core).state k.number) → IsTrue (has_table (f.show core).state.names asked) → IsFree (f.show core).state k.number asked
  locked_asked asked named alone has alive takes there h b =
      let a = alone alive in
      let mine = subst (λ (names : List (List ℕ)). IsCovered (locks names (Table asked)) k.holds) named (has (takes_own k.number (own_by k) (f.show core).state a.mine takes)) in
      no_clash f core k asked a (covered_asked (f.show core).state.names asked k.holds there mine) h b.1.0 b.0
      (touches (f.show core).state.names asked b.1.0 mode.Exclusive) (touches (f.show core).state.names asked b.1.0 mode.Shared) refl refl b.1.1

  pub locked_by : (call : Call) → names_of k ≡ (f.show core).state.names → (IsFalse (f.show core).state.is_dead → HasAlone f core k) → (IsTrue (takes_of k) → IsCovered (locks (names_of k) call) k.holds) → IsLocked (f.show core).state k.number call
  locked_by (Table asked) named alone has = locked_asked asked named alone has
  locked_by Begin named alone has = tt
  locked_by (Control control) named alone has = tt

own_covered : (names : List (List ℕ)) (total : ℕ) (old new : State) (n : ℕ) (call : Call) (reply : Reply) (holds : List Hold) → Moves total old n call reply new → (IsTrue (takes_calls old n) → IsCovered (locks names call) holds)
    → (IsFalse (is_refusal reply) → finds_table names call ≡ true) → is_media reply ≡ false → (b : Bool) → is_refusal reply ≡ b
    → IsCovered (touched names (calls_of old n)) holds → IsCovered (touched names (calls_of new n)) holds
own_covered names total old new n call reply holds m call_covered tabled sure true is c =
    subst (λ (live : Option Granted). IsCovered (touched names (unwrap_or live [])) holds) (sym (ap (λ (f : ℕ → Option Granted). f n) (m.refused is sure).0)) c
own_covered names total old new n call reply holds m call_covered tabled sure false is c = subst (λ (live : Option Granted). IsCovered (touched names (unwrap_or live [])) holds) (sym (m.own is).0)
    (covered_with names (calls_of old n) call reply holds c (covered_call names call (takes_calls old n) holds (tabled is) call_covered (able_takes old n call (m.able is))))

-- what covers a caller's transaction, as its turns say it, covers that which is live
pub covered_own : (names : List (List ℕ)) (caller : ℕ) (own : Own) (state : State) (holds : List Hold) → KnowsLive caller own state → IsCovered (touched names (unwrap_or own.live [])) holds → IsCovered (touched names (calls_of state caller)) holds
covered_own names caller own state holds knows c = go (live_either caller own state knows)
  where
    go : (state.live caller ≡ own.live) ⊎ (state.live caller ≡ None) → IsCovered (touched names (calls_of state caller)) holds
    go (inl same) = subst (λ (live : Option Granted). IsCovered (touched names (unwrap_or live [])) holds) (sym same) c
    go (inr none) = subst (λ (live : Option Granted). IsCovered (touched names (unwrap_or live [])) holds) (sym none) (covered_none names holds)

-- what covers another's transaction before a call still does: it stays, or has ended
other_covered : (names : List (List ℕ)) (total : ℕ) (old new : State) (n : ℕ) (call : Call) (reply : Reply) (other : ℕ) (holds : List Hold) → Stays old new other ⊎ EndsWith total old n call reply new other
    → IsCovered (touched names (calls_of old other)) holds → IsCovered (touched names (calls_of new other)) holds
other_covered names total old new n call reply other holds (inl stays) c = subst (λ (live : Option Granted). IsCovered (touched names (unwrap_or live [])) holds) (sym stays.live) c
other_covered names total old new n call reply other holds (inr ends) c = subst (λ (live : Option Granted). IsCovered (touched names (unwrap_or live [])) holds) (sym ends.live) (covered_none names holds)

module _ {C : Type 0} (callers : ℕ) (names : List (List ℕ)) where
  -- the words of the stripes stay, and the passes have what they had
  pub locked_same : (state : State) (holds : ℕ → List Hold) (met : ℕ → List Met) (words words' : List ℕ) (views views' : List (View C)) → AreLocked callers names state holds met words views → ((t : ℕ) → t < 64 → get_or words' t 0 ≡ get_or words t 0)
      → ((i : ℕ) (v : View C) → get_elem? views' i ≡ some v → AllHave holds met v.passes) → AreLocked callers names state holds met words' views'
  locked_same state holds met words words' views views' h same have = record {
    have = have;
    strangers = h.strangers;
    asked = h.asked;
    caused = h.caused;
    long = h.long;
    stripes = λ t l. subst (λ w. Stands w (λ n. get_or (holds n) t Free)) (sym (same t l)) (h.stripes t l);
    covered = h.covered;
  }

  -- a call of the pass n, which has what the call touches
  pub locked_step : (old new : State) (holds : ℕ → List Hold) (met : ℕ → List Met) (words : List ℕ) (views : List (View C)) (total n : ℕ) (call : Call) (reply : Reply) → AreLocked callers names old holds met words views → Moves total old n call reply new
      → (IsFalse old.is_dead → IsTrue (takes_calls old n) → IsCovered (locks names call) (holds n)) → (IsFalse (is_refusal reply) → finds_table names call ≡ true) → AreLocked callers names new holds met words views
  locked_step old new holds met words views total n call reply h m call_covered tabled = record {
    have = h.have;
    strangers = h.strangers;
    asked = h.asked;
    caused = h.caused;
    long = h.long;
    stripes = h.stripes;
    covered = λ alive k. (let both = or_parts old.is_dead (is_media reply) (sym m.dead ∙ alive) in
        dite (ℕ_discrete k n)
        (λ (e : k ≡ n). subst (λ i. IsCovered (touched names (calls_of new i)) (holds i)) (sym e) (own_covered names total old new n call reply (holds n) m (call_covered both.0) tabled both.1 (is_refusal reply) refl (h.covered both.0 n)))
        (λ (ne : k ≢ n). other_covered names total old new n call reply k (holds k) (m.others k ne) (h.covered both.0 k)));
  }
