-- What a whole call guarantees: what it locks, its turn, and what it gives back.
use Rattle.std.proofs.Common.{◌≡◌, ◌≢◌, ◌&&◌, ℕ, not, Bool, true, false, List, [], ◌∷◌, ◌++◌, get_or, replicate, Option, None, unwrap_or, Result, Ok, Err, ⊎_elim, refl, sym, ap, ◌∙◌, subst}
use Rattle.std.specs.Prelude.{IsTrue, IsFalse, IfOk, is_some, MatchBool, if◌then◌else◌}
use Rattle.std.proofs.lemmas.Bool.{true≢false, false≢true}
use mathlib.Core.List.{append-nil}
use Rattle.history.specs.Table.{Granted}
use Rattle.history.specs.Locks.{Touch, touched}
use Rattle.history.specs.declared.call.Call.{Call}
use Rattle.history.specs.declared.call.Call.TheVariants.{Begin, Table, Control}
use Rattle.history.specs.declared.call.TableCall.{TableCall}
use Rattle.history.specs.declared.call.Control.TheVariants.{Commit, Abort, Offer, Settle, Purge}
use Rattle.history.specs.declared.call.Reply.{Reply}
use Rattle.history.specs.declared.locks.Mode.{Mode}
use Rattle.history.specs.declared.locks.Mode.TheVariants as mode
use Rattle.caller_steps.specs.Core.{CoreView}
use Rattle.caller_steps.specs.Offers.{is_offered}
use Rattle.caller_steps.specs.Fate.{is_refusal, is_media, is_committed, live_with, offer_with}
use Rattle.caller_steps.specs.Own.{Own, own_of, own_after, nothing_own, is_commit, live_after, waits_after}
use Rattle.stripe_words.specs.declared.hold.Hold.{Hold}
use Rattle.stripe_words.specs.declared.hold.Hold.TheVariants.{Free, Trying, Shared, Exclusive}
use Rattle.stripe_words.specs.Words.{granted, locked, raised}
use Rattle.mars_manager.specs.declared.view.Known.{Known}
use Rattle.mars_manager.specs.Pass.{told_of, own_by, live_of, waits_of, takes_of, names_in, names_of, tried}
use Rattle.mars_manager.specs.Locks.{locks, IsCovered, IsBelow, raised_for, is_end, is_last, takes_after, touched_by, hold_of, with_holds, with_locks, HasLockedFor, HasReadied, HasAfter}
use Rattle.mars_manager.specs.Sharing.{Called, Commits, HasCommitted, HasSettled, SeesOwn}
use Rattle.mars_manager.specs.Seat.{HasMade}
use Rattle.mars_manager.proofs.Calls.{called_as}
use Rattle.mars_manager.proofs.Knowns.{below_raised, below_same}
use Rattle.mars_manager.proofs.Waiting.{fold-push}
use Rattle.mars_manager.proofs.Locked.{touching, covered_with, covered_none}

-- what a pass locks for a call covers the call
raised_reads : (touch : Touch) (x : Hold) → touch mode.Shared ≡ true → granted (raised_for touch x) ≡ 1
raised_reads touch x e = go (touch mode.Exclusive) (touch mode.Shared) x e
  where
    go : (writes reads : Bool) (x : Hold) → reads ≡ true → granted (if writes then raised mode.Exclusive x else if reads then raised mode.Shared x else x) ≡ 1
    go true reads x e = refl
    go false true Free e = refl
    go false true Trying e = refl
    go false true Shared e = refl
    go false true Exclusive e = refl
    go false false x e = absurd (false≢true e)

raised_writes : (touch : Touch) (x : Hold) → touch mode.Exclusive ≡ true → locked (raised_for touch x) ≡ 1
raised_writes touch x e = go (touch mode.Exclusive) (touch mode.Shared) x e
  where
    go : (writes reads : Bool) (x : Hold) → writes ≡ true → locked (if writes then raised mode.Exclusive x else if reads then raised mode.Shared x else x) ≡ 1
    go true reads x e = refl
    go false reads x e = absurd (false≢true e)

-- whether its transaction takes calls after a call that was done
takes_with : (calls : Granted) (call : Call) (reply : Reply) → (not (is_offered (offer_with call)) && is_some (live_with calls call reply)) ≡ not (is_last call)
takes_with calls Begin reply = refl
takes_with calls (Table asked) reply = refl
takes_with calls (Control Commit) reply = refl
takes_with calls (Control Abort) reply = refl
takes_with calls (Control Offer) reply = refl
takes_with calls (Control Settle) reply = refl
takes_with calls (Control Purge) reply = refl

takes : (w : Bool) (o : Option Granted) (call : Call) (reply : Reply) → (not (waits_after w call reply) && is_some (live_after o call reply)) ≡ takes_after (not w && is_some o) call reply
takes w o call reply = go (is_media reply) (is_commit call) (is_refusal reply)
  where
    media : (commit waits live : Bool) → is_some o ≡ live → (not (if commit then false else waits) && is_some (if commit then None else o)) ≡ ((not waits && live) && not commit)
    media true true true e = refl
    media true true false e = refl
    media true false true e = refl
    media true false false e = refl
    media false true live e = refl
    media false false true e = e
    media false false false e = e

    go : (media_ commit refused : Bool) → (not (if media_ then (if commit then false else w) else (if refused then w else is_offered (offer_with call))) && is_some (if media_ then (if commit then None else o) else (if refused then o else live_with (unwrap_or o []) call reply)))
        ≡ (if media_ then (not w && is_some o) && not commit else (if refused then not w && is_some o else not (is_last call)))
    go true commit refused = media commit w (is_some o) refl
    go false commit true = refl
    go false commit false = takes_with (unwrap_or o []) call reply

-- what covers a transaction before a call that is refused, or what it touches too, covers it after the call
covered_live : (names : List (List ℕ)) (o : Option Granted) (call : Call) (reply : Reply) (hs : List Hold) → IsCovered (touched names (unwrap_or o [])) hs → (is_refusal reply ≡ false → IsCovered (touching names call) hs) → (media_ commit refused : Bool) → is_refusal reply ≡ refused
    → IsCovered (touched names (unwrap_or (if media_ then (if commit then None else o) else (if refused then o else live_with (unwrap_or o []) call reply)) [])) hs
covered_live names o call reply hs a b true true refused e = covered_none names hs
covered_live names o call reply hs a b true false refused e = a
covered_live names o call reply hs a b false commit true e = a
covered_live names o call reply hs a b false commit false e = covered_with names (unwrap_or o []) call reply hs a (b e)

pub if_ok : {A B : Type 0} (P Q : A → Type 0) (r : Result A B) → ((a : A) → P a → Q a) → IfOk r P → IfOk r Q
if_ok P Q (Ok a) h p = h a p
if_ok P Q (Err b) h p = tt

-- a call that is none on a table or on saves locks nothing
pub no_locks : (names : List (List ℕ)) (call : Call) → ((asked : TableCall) → call ≡ Table asked → ⊥) → (t : ℕ) (m : Mode) → locks names call t m ≡ false
no_locks names Begin apart t m = refl
no_locks names (Table asked) apart t m = absurd (apart asked refl)
no_locks names (Control control) apart t m = refl

module _ {C : Type 0} where
  -- what one more turn says of its caller's transactions
  own_on : (was now : Known C) (call : Call) (reply : Reply) → now.number ≡ was.number → told_of now ≡ told_of was ++ (call, reply) ∷ [] → own_by now ≡ own_after was.number (own_by was) (call, reply)
  own_on was now call reply number told = (λ i. own_of (number i) (told i)) ∙ fold-push (own_after was.number) nothing_own (told_of was) (call, reply)

  -- the live transaction after it
  pub live_on : (was now : Known C) (call : Call) (reply : Reply) → now.number ≡ was.number → told_of now ≡ told_of was ++ (call, reply) ∷ [] → live_of now ≡ live_after (live_of was) call reply
  live_on was now call reply number told = ap (λ (o : Own). o.live) (own_on was now call reply number told)

  pub takes_on : (was now : Known C) (call : Call) (reply : Reply) → now.number ≡ was.number → told_of now ≡ told_of was ++ (call, reply) ∷ [] → takes_of now ≡ takes_after (takes_of was) call reply
  takes_on was now call reply number told = ap (λ (o : Own). not o.waits && is_some o.live) (own_on was now call reply number told) ∙ takes (waits_of was) (live_of was) call reply

  pub covered_on : (was now : Known C) (call : Call) (reply : Reply) (hs : List Hold) → now.number ≡ was.number → now.setup ≡ was.setup → told_of now ≡ told_of was ++ (call, reply) ∷ [] → IsCovered (touched_by was) hs → (is_refusal reply ≡ false → IsCovered (touching (names_of was) call) hs) → IsCovered (touched_by now) hs
  covered_on was now call reply hs number setup told a b = subst (λ (p : List (List ℕ) × Option Granted). IsCovered (touched p.0 (unwrap_or p.1 [])) hs) (λ j. (names_in (sym setup j), sym (live_on was now call reply number told) j))
      (covered_live (names_of was) (live_of was) call reply hs a b (is_media reply) (is_commit call) (is_refusal reply) refl)

  -- what a call locks
  pub readied : (call : Call) (was now : Known C) → ((t : ℕ) → hold_of t was ≢ Trying) → HasLockedFor call was now → IsTrue (takes_of was) → HasReadied call was now
  readied call was now settled h live = record {
    more = h.more;
    same = h.same;
    below = λ t. subst (IsBelow (hold_of t was)) (sym (h.each t)) (below_raised (locks (names_of was) call t) (hold_of t was) (settled t));
    covered = λ _. record {
      reads = λ t e. ap granted (h.each t) ∙ raised_reads (locks (names_of was) call t) (hold_of t was) e;
      writes = λ t e. ap locked (h.each t) ∙ raised_writes (locks (names_of was) call t) (hold_of t was) e;
    };
    each = λ _ t. h.each t;
    idle = λ dead. absurd (true≢false (sym live ∙ dead));
    quiet = λ dead. absurd (true≢false (sym live ∙ dead));
  }

  pub unasked : (call : Call) (was : Known C) → ((t : ℕ) (m : Mode) → locks (names_of was) call t m ≡ false) → HasLockedFor call was was
  unasked call was none = record {
    more = [];
    same = λ i. with_locks was.holds (sym (append-nil was.met) i) was;
    each = λ t. sym ((λ i. if none t mode.Exclusive i then raised mode.Exclusive (hold_of t was) else if none t mode.Shared i then raised mode.Shared (hold_of t was) else hold_of t was));
  }

  pub unreadied : (call : Call) (was : Known C) → ((t : ℕ) → hold_of t was ≢ Trying) → IsFalse (takes_of was) → HasReadied call was was
  unreadied call was settled dead = record {
    more = [];
    same = λ i. with_locks was.holds (sym (append-nil was.met) i) was;
    below = λ t. below_same (hold_of t was) (settled t);
    covered = λ takes. absurd (true≢false (sym takes ∙ dead));
    each = λ takes. absurd (true≢false (sym takes ∙ dead));
    idle = λ _. refl;
    quiet = λ _. refl;
  }

  module _ (tells : Bool) (show : C → CoreView) (k k1 k2 : Known C) (call : Call) (reply : Reply) (r : HasReadied call k k1) (m : HasMade tells show k1 call reply k2) where
    -- a call is a step, whatever is locked before it and given back after it
    pub called_locks : (k3 : Known C) (hs : List Hold) → k3 ≡ with_holds hs k2 → Called tells show k call reply k3
    called_locks k3 hs e =
        let holds : k3.holds ≡ hs = ap (λ (j : Known C). j.holds) e in
        let met : k3.met ≡ k2.met = ap (λ (j : Known C). j.met) e in
        let tries : k3.tries ≡ k2.tries = ap (λ (j : Known C). j.tries) e in
        called_as tells show k k2 k3 call reply k.tries k.found k1.holds (k.met ++ r.more) (e ∙ (λ i. tried (sym tries i) (with_locks (sym holds i) (sym met i) k2)))
        (subst (λ (j : Known C). Called tells show j call reply k2) r.same m.called)

    -- what it says of its caller's own transactions asks for no stripes
    pub called_commits : (k3 : Known C) (hs : List Hold) → k3 ≡ with_holds hs k2 → Commits tells k call reply k3
    called_commits k3 hs e =
        subst (λ (j : Known C). Commits tells k call reply j) (sym e)
        (go (is_committed reply) (waits_of k) (subst (λ (j : Known C). Commits tells j call reply k2) r.same m.commits))
      where
        k' : Known C
        k' = with_locks k1.holds (k.met ++ r.more) k

        go : (b w : Bool) → MatchBool b (MatchBool w (HasSettled tells k' reply k2) (call ≢ Control Settle → HasCommitted tells k' reply k2)) (SeesOwn k' k2)
            → MatchBool b (MatchBool w (HasSettled tells k reply (with_holds hs k2)) (call ≢ Control Settle → HasCommitted tells k reply (with_holds hs k2))) (SeesOwn k (with_holds hs k2))
        go true true s = record { at = s.at; last = s.last; before = s.before; mine = s.mine; seen = s.seen; told = s.told }
        go true false s = λ apart. let h = s apart in record { before = h.before; seen = h.seen; mine = h.mine; told = h.told }
        go false w s = s

    pub after_refusal : (k3 : Known C) → is_refusal reply ≡ true → k3.holds ≡ k.holds → HasAfter call reply k k3
    after_refusal k3 e h = subst (λ b. MatchBool b (k3.holds ≡ k.holds) (MatchBool (is_end call) (k3.holds ≡ replicate 64 Free) ((t : ℕ) → hold_of t k3 ≡ raised_for (locks (names_of k) call t) (hold_of t k)))) (sym e) h

    pub after_end : (k3 : Known C) → is_refusal reply ≡ false → is_end call ≡ true → k3.holds ≡ replicate 64 Free → HasAfter call reply k k3
    after_end k3 e d h = subst (λ b. MatchBool b (k3.holds ≡ k.holds) (MatchBool (is_end call) (k3.holds ≡ replicate 64 Free) ((t : ℕ) → hold_of t k3 ≡ raised_for (locks (names_of k) call t) (hold_of t k)))) (sym e)
        (subst (λ b. MatchBool b (k3.holds ≡ replicate 64 Free) ((t : ℕ) → hold_of t k3 ≡ raised_for (locks (names_of k) call t) (hold_of t k))) (sym d) h)

    same_takes : takes_of k1 ≡ takes_of k
    same_takes = ap (λ (j : Known C). takes_of j) r.same

    each_if : (b : Bool) → takes_of k ≡ b → is_refusal reply ≡ false → is_end call ≡ false → (t : ℕ) → hold_of t k2 ≡ raised_for (locks (names_of k) call t) (hold_of t k)
    each_if true takes e d t = ap (λ hs. get_or hs t Free) m.holds ∙ r.each takes t
    each_if false idle e d t = ap (λ hs. get_or hs t Free) m.holds ∙ ap (λ hs. get_or hs t Free) (r.idle idle)
        ∙ sym (⊎_elim
        (λ (takes : IsTrue (takes_of k1)). absurd (true≢false (sym takes ∙ same_takes ∙ idle)))
        (⊎_elim
        (λ (begin : call ≡ Begin). ap (λ (c : Call). raised_for (locks (names_of k) c t) (hold_of t k)) begin)
        (⊎_elim
        (λ (settle : call ≡ Control Settle). absurd (true≢false (sym (ap is_end settle) ∙ d)))
        (λ (purge : call ≡ Control Purge). absurd (true≢false (sym (ap is_end purge) ∙ d)))))
        (m.begun e))

    pub after_done : is_refusal reply ≡ false → is_end call ≡ false → HasAfter call reply k k2
    after_done e d = subst (λ b. MatchBool b (k2.holds ≡ k.holds) (MatchBool (is_end call) (k2.holds ≡ replicate 64 Free) ((t : ℕ) → hold_of t k2 ≡ raised_for (locks (names_of k) call t) (hold_of t k)))) (sym e)
        (subst (λ b. MatchBool b (k2.holds ≡ replicate 64 Free) ((t : ℕ) → hold_of t k2 ≡ raised_for (locks (names_of k) call t) (hold_of t k))) (sym d) (each_if (takes_of k) refl e d))
