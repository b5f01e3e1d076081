-- A step keeps the history legal, each live transaction right, and the stripes that they touched apart.
use Rattle.std.proofs.Common.{◌≡◌, ◌≢◌, ℕ, Bool, true, false, nat_eq, List, [], ◌∷◌, ◌++◌, length, Some, None, unwrap_or, is_some, refl, sym, ap, subst}
use Rattle.std.specs.Map.{update}
use Rattle.std.proofs.lemmas.Bool.{false_from_ne_true, false≢true}
use Rattle.std.proofs.lemmas.List.{append-nil}
use Rattle.history.specs.Writes.{Table}
use Rattle.history.specs.Table.{Granted, begun, Answers, worked, IsRight, left_by}
use Rattle.history.specs.Locks.{touches, touched, clash, AreApart}
use Rattle.history.specs.Legal.{IsLegal}
use Rattle.history.specs.Groups.{AreGrouped, AreWhole}
use Rattle.history.specs.declared.call.Call.{Call}
use Rattle.history.specs.declared.call.TableCall.{TableCall}
use Rattle.history.specs.declared.call.Reply.{Reply}
use Rattle.history.proofs.OneMore.{IsRight-push, IsLegal-push, records-push}
use Rattle.history.proofs.Grouping.{grouped_more, legal_numbered, all_whole}
use Rattle.history.proofs.Locking.{right_after}
use Rattle.caller_steps.specs.State.{State, Index, Offer, unoffered, offered, opened, calls_of, records_of, view_of, with_live, with_offer, done_by}
use Rattle.caller_steps.specs.Offers.{offerers, committed_group}
use Rattle.caller_steps.specs.Locked.{IsFree}
use Rattle.caller_steps.specs.Room.{Limits}
use Rattle.caller_steps.specs.Step.{StepOf, Step, Runs}
use Rattle.caller_steps.specs.Sound.{IsOfferOf, IsSound}
use Rattle.caller_steps.proofs.Apart.{apart_more, right-update, apart-update, live-update, offer-update, of_none, offer_longer}
use Rattle.caller_steps.proofs.Grouped.{group_sound, one_without, doubted_sound}
use Rattle.caller_steps.proofs.Fates.{Fate, refused, failed, began, granted, committed, doubted, aborted, given, settled, unsure, told, purged, Acts, acts_fate}

-- soundness does not depend on the index
with_index : (state : State) → IsSound state → (index : Index) → IsSound (record state { index = index })
with_index state sound index = record { legal = sound.legal; certain = sound.certain; doubtful = sound.doubtful; groups = sound.groups; doubtful_groups = sound.doubtful_groups; right = sound.right; offers = sound.offers; apart = sound.apart }

-- a caller offers its transaction, or has settled
offers_as : (old : State) (caller : ℕ) → IsSound old → (offer : Offer) → IsOfferOf old.history caller (old.live caller) offer → IsSound (with_offer old caller offer)
offers_as old caller sound offer is = record {
  legal = sound.legal;
  certain = sound.certain;
  doubtful = sound.doubtful;
  groups = sound.groups;
  doubtful_groups = sound.doubtful_groups;
  right = sound.right;
  offers = offer-update old.history caller old.live old.offers sound.offers offer is;
  apart = sound.apart;
}

module _ (old : State) (caller : ℕ) (sound : IsSound old) where
  -- soundness does not depend on the index, nor on whether the core is dead if nothing was in doubt
  same : (index : Index) (dead : Bool) → (dead ≡ false → old.is_dead ≡ false) → IsSound (record old { index = index; is_dead = dead })
  same index dead alive = record { legal = sound.legal; certain = λ e. sound.certain (alive e); doubtful = sound.doubtful; groups = sound.groups; doubtful_groups = sound.doubtful_groups; right = sound.right; offers = sound.offers; apart = sound.apart }

  -- a caller begins
  begins : old.offers caller ≡ unoffered → IsSound (with_live old caller (Some []))
  begins un = record {
    legal = sound.legal;
    certain = sound.certain;
    doubtful = sound.doubtful;
    groups = sound.groups;
    doubtful_groups = sound.doubtful_groups;
    right = right-update (records_of old) old.live caller (Some []) (λ other ne. sound.right other) tt;
    offers = live-update old.history caller old.live old.offers sound.offers (Some []) (of_none old.history caller (Some []) (old.offers caller) un);
    apart = apart-update old.names old.live caller (Some []) sound.apart (λ other ne stripe. refl);
  }

  -- a caller's transaction ends
  ends : old.offers caller ≡ unoffered → IsSound (with_live old caller None)
  ends un = record {
    legal = sound.legal;
    certain = sound.certain;
    doubtful = sound.doubtful;
    groups = sound.groups;
    doubtful_groups = sound.doubtful_groups;
    right = right-update (records_of old) old.live caller None (λ other ne. sound.right other) tt;
    offers = live-update old.history caller old.live old.offers sound.offers None (of_none old.history caller None (old.offers caller) un);
    apart = apart-update old.names old.live caller None sound.apart (λ other ne stripe. refl);
  }

  module _ (calls : Granted) (is : calls_of old caller ≡ calls) where
    own_right : IsRight (records_of old) calls
    own_right = subst (λ cs. IsRight (records_of old) cs) is (sound.right caller)

    own_apart : (other : ℕ) → other ≢ caller → AreApart old.names calls (calls_of old other)
    own_apart other ne = subst (λ cs. AreApart old.names cs (calls_of old other)) is (sound.apart caller other (λ e. ne (sym e)))

    -- a call is granted
    grows : old.offers caller ≡ unoffered → (call : TableCall) (reply : Reply) (index : Index) → IsFree old caller call → Answers (view_of old caller) call reply
        → IsSound (record (with_live old caller (Some (calls ++ (call, reply) ∷ []))) { index = index })
    grows un call reply index free answers = record {
      legal = sound.legal;
      certain = sound.certain;
      doubtful = sound.doubtful;
      groups = sound.groups;
      doubtful_groups = sound.doubtful_groups;
      right = right-update (records_of old) old.live caller (Some (calls ++ (call, reply) ∷ [])) (λ other ne. sound.right other)
          (IsRight-push (records_of old) calls call reply own_right (subst (λ cs. Answers (worked (begun (records_of old)) cs) call reply) is answers));
      offers = live-update old.history caller old.live old.offers sound.offers (Some (calls ++ (call, reply) ∷ [])) (of_none old.history caller (Some (calls ++ (call, reply) ∷ [])) (old.offers caller) un);
      apart = apart-update old.names old.live caller (Some (calls ++ (call, reply) ∷ [])) sound.apart (λ other ne.
          apart_more old.names calls (calls_of old other) call reply (own_apart other ne) (λ stripe.
          false_from_ne_true (clash (touches old.names call stripe) (touched old.names (calls_of old other) stripe)) (λ clashes. free other (ne, (stripe, clashes)))));
    }

    longer : IsLegal old.base (old.history ++ done_by old caller calls ∷ [])
    longer = IsLegal-push old.base old.history (done_by old caller calls) sound.legal refl own_right

    -- a group of one comes behind the others
    one_more : AreGrouped (old.history ++ done_by old caller calls ∷ [])
    one_more = grouped_more old.history (done_by old caller calls ∷ []) sound.groups (refl, tt)

    -- and with it each group is whole
    pub one_more_whole : AreWhole (length (old.history ++ done_by old caller calls ∷ [])) (old.history ++ done_by old caller calls ∷ [])
    one_more_whole = all_whole (old.history ++ done_by old caller calls ∷ []) (legal_numbered old.base (old.history ++ done_by old caller calls ∷ []) longer) one_more

    -- a transaction commits
    commits : old.offers caller ≡ unoffered → old.is_dead ≡ false → (index : Index) → IsSound (record (with_live old caller None) { history = old.history ++ done_by old caller calls ∷ []; index = index })
    commits un alive index = record {
      legal = longer;
      certain = sound.certain;
      doubtful = subst (λ d. IsLegal old.base ((old.history ++ done_by old caller calls ∷ []) ++ d)) (sym (sound.certain alive))
          (subst (λ h. IsLegal old.base h) (sym (append-nil (old.history ++ done_by old caller calls ∷ []))) longer);
      groups = one_more;
      doubtful_groups = subst (λ d. AreGrouped ((old.history ++ done_by old caller calls ∷ []) ++ d)) (sym (sound.certain alive))
          (subst (λ h. AreGrouped h) (sym (append-nil (old.history ++ done_by old caller calls ∷ []))) one_more);
      right = subst (λ table. (other : ℕ) → IsRight table (unwrap_or (update nat_eq old.live caller None other) [])) (sym (records-push old.base old.history (done_by old caller calls)))
          (right-update (left_by (records_of old) calls) old.live caller None
          (λ other ne. right_after old.names (records_of old) calls (calls_of old other) (own_apart other ne) (sound.right other)) tt);
      offers = λ other. offer_longer old.history (done_by old caller calls ∷ []) other (update nat_eq old.live caller None other) (old.offers other)
          (live-update old.history caller old.live old.offers sound.offers None (of_none old.history caller None (old.offers caller) un) other);
      apart = apart-update old.names old.live caller None sound.apart (λ other ne stripe. refl);
    }

    -- a transaction is in doubt
    doubts : old.offers caller ≡ unoffered → (index : Index) → IsSound (record (with_live old caller None) { doubt = done_by old caller calls ∷ []; index = index; is_dead = true })
    doubts un index = let ended = ends un in record { legal = ended.legal; certain = λ alive. absurd (false≢true (sym alive)); doubtful = longer; groups = sound.groups; doubtful_groups = one_more; right = ended.right; offers = ended.offers; apart = ended.apart }

  -- Each fate but a commit's keeps the state sound, and a commit's does too if the medium has not failed.
  fate_sound : (callers : ℕ) (call : Call) (reply : Reply) (new : State) → old.is_dead ≡ false → Fate callers old caller call reply new → IsSound new
  fate_sound callers call reply new alive (refused refusal sure index e) = subst IsSound (sym e) (same index old.is_dead (λ is. is))
  fate_sound callers call reply new alive (failed apart r index e) = subst IsSound (sym e) (same index true (λ is. alive))
  fate_sound callers call reply new alive (began un l c r e) = subst IsSound (sym e) (begins un)
  fate_sound callers call reply new alive (granted asked calls un c l free answers index e) = subst IsSound (sym e) (grows calls (ap (λ o. unwrap_or o []) l) un asked reply index free answers)
  fate_sound callers call reply new alive (committed calls un c r l index e) = subst IsSound (sym e) (commits calls (ap (λ o. unwrap_or o []) l) un alive index)
  fate_sound callers call reply new alive (doubted calls un c r l index e) = subst IsSound (sym e) (doubts calls (ap (λ o. unwrap_or o []) l) un index)
  fate_sound callers call reply new alive (aborted calls un c r l e) = subst IsSound (sym e) (ends un)
  fate_sound callers call reply new alive (given calls un c r l e) = subst IsSound (sym e) (offers_as old caller sound offered (ap is_some l))
  fate_sound callers call reply new alive (settled inside has c r index e) =
      let group = group_sound old sound alive (offerers callers old) in
      subst IsSound (sym e) (with_index _ (offers_as (committed_group old (offerers callers old)) caller group unoffered tt) index)
  fate_sound callers call reply new alive (unsure inside has c r index e) = subst IsSound (sym e) (with_index _ (doubted_sound old sound alive (offerers callers old)) index)
  fate_sound callers call reply new alive (told n has c r e) = subst IsSound (sym e) (one_without old caller sound)
  fate_sound callers call reply new alive (purged n un l c r index e) = subst IsSound (sym e) (same index old.is_dead (λ is. is))

  acts_sound_if : (dead : Bool) → old.is_dead ≡ dead → (limits : Limits) (call : Call) (reply : Reply) (new : State) → Acts limits old caller call reply new → IsSound new
  acts_sound_if true dead limits call reply new acts = subst IsSound (sym (subst (λ d. StepOf limits d (old.offers caller) (old.live caller) old caller call reply new) dead acts).1) sound
  acts_sound_if false alive limits call reply new acts = fate_sound limits.callers call reply new alive (acts_fate limits old caller new call reply acts)

-- A step keeps the state sound.
pub acts_sound : (limits : Limits) (old : State) (caller : ℕ) (call : Call) (reply : Reply) (new : State) → IsSound old → Acts limits old caller call reply new → IsSound new
acts_sound limits old caller call reply new sound acts = acts_sound_if old caller sound old.is_dead refl limits call reply new acts

pub step_sound : (limits : Limits) (old : State) (caller : ℕ) (call : Call) (reply : Reply) (new : State) → IsSound old → Step limits old caller call reply new → IsSound new
step_sound limits old caller call reply new sound step = acts_sound limits old caller call reply new sound step.acts

-- So do the calls of all callers, in any order.
pub runs_sound : (limits : Limits) (old : State) (turns : List (ℕ × Call × Reply)) (new : State) → IsSound old → Runs limits old turns new → IsSound new
runs_sound limits old [] new sound e = subst IsSound (sym e) sound
runs_sound limits old (turn ∷ turns) new sound (mid, step, runs) = runs_sound limits mid turns new (step_sound limits old turn.0 turn.1 turn.2 mid sound step) runs

-- In the whole history each group is whole.
pub history_whole : (state : State) → IsSound state → AreWhole (length state.history) state.history
history_whole state sound = all_whole state.history (legal_numbered state.base state.history sound.legal) sound.groups

-- The state at the opening is sound.
pub opened_sound : (names : List (List ℕ)) (base : Table) (index : Index) → IsSound (opened names base index)
opened_sound names base index = record { legal = tt; certain = λ alive. refl; doubtful = tt; groups = tt; doubtful_groups = tt; right = λ caller. tt; offers = λ caller. tt; apart = λ one other ne stripe. refl }
