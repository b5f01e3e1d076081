-- Transactions of several callers, committed one after another as one group.
use Rattle.std.proofs.Common.{◌≡◌, ◌≢◌, ℕ, inr, false, ◌+◌, List, [], ◌∷◌, ◌++◌, length, None, refl, sym, subst, ◌∙◌, arith}
use Rattle.std.proofs.lemmas.Bool.{false≢true}
use Rattle.std.proofs.lemmas.List.{append-nil}
use Rattle.history.specs.Writes.{Table}
use Rattle.history.specs.Table.{IsRight, left_by}
use Rattle.history.specs.Legal.{IsLegal}
use Rattle.history.specs.Groups.{AreGrouped, AreWhole}
use Rattle.history.specs.Locks.{AreApart}
use Rattle.history.specs.declared.transaction.Done.{Done}
use Rattle.history.proofs.OneMore.{IsLegal-push, records-push}
use Rattle.history.proofs.Grouping.{grouped_more, legal_numbered, all_whole}
use Rattle.history.proofs.Locking.{right_after}
use Rattle.caller_steps.specs.State.{State, unoffered, unsettled, calls_of, records_of, with_live, with_offer}
use Rattle.caller_steps.specs.Offers.{done_in, with_done, with_group, group_in, group_end, without, committed_group, doubted_group}
use Rattle.caller_steps.specs.Sound.{IsOfferOf, IsSound}
use Rattle.caller_steps.proofs.Apart.{right-update, apart-update, both-update, offer_longer, offer_last}
use Rattle.caller_steps.proofs.Offering.{group_history, one_longer, group_base, group_doubt, without_history, without_base}

-- all that soundness says but of groups and of what is in doubt
pub record IsRightNow (state : State) : Type 0 where
  pub legal : IsLegal state.base state.history
  pub right : (caller : ℕ) → IsRight (records_of state) (calls_of state caller)
  pub offers : (caller : ℕ) → IsOfferOf state.history caller (state.live caller) (state.offers caller)
  pub apart : (one other : ℕ) → one ≢ other → AreApart state.names (calls_of state one) (calls_of state other)

-- one more of a group
pub one_right : (state : State) (last caller : ℕ) → IsRightNow state → IsRightNow (with_done state last caller)
one_right state last caller now = record {
  legal = IsLegal-push state.base state.history (done_in state last caller) now.legal refl (now.right caller);
  right = subst (λ table. (other : ℕ) → IsRight table (calls_of (with_live state caller None) other)) (sym (records-push state.base state.history (done_in state last caller)))
      (right-update (left_by (records_of state) (calls_of state caller)) state.live caller None
      (λ other ne. right_after state.names (records_of state) (calls_of state caller) (calls_of state other) (now.apart caller other (λ e. ne (sym e))) (now.right other)) tt);
  offers = both-update (state.history ++ done_in state last caller ∷ []) caller state.live state.offers
      (λ other. offer_longer state.history (done_in state last caller ∷ []) other (state.live other) (state.offers other) (now.offers other)) None (unsettled (length state.history + 1))
      (offer_last state.history (done_in state last caller) caller refl);
  apart = apart-update state.names state.live caller None now.apart (λ other ne stripe. refl);
}

pub group_right : (state : State) (last : ℕ) (callers : List ℕ) → IsRightNow state → IsRightNow (with_group state last callers)
group_right state last [] now = now
group_right state last (caller ∷ callers) now = group_right (with_done state last caller) last callers (one_right state last caller now)

-- they are one group
pub one_group : (state : State) (last : ℕ) (callers : List ℕ) → length state.history + length callers ≡ last → AreGrouped (group_in state last callers)
one_group state last [] is = tt
one_group state last (caller ∷ []) is = (omega (arith, is), tt)
one_group state last (caller ∷ next ∷ callers) is = (inr refl, one_group (with_done state last caller) last (next ∷ callers) (omega (arith, is, one_longer state last caller)))

module _ (state : State) (sound : IsSound state) (alive : state.is_dead ≡ false) (callers : List ℕ) where
  abbrev last : ℕ
  last = group_end state callers

  now : IsRightNow (with_group state last callers)
  now = group_right state last callers (record { legal = sound.legal; right = sound.right; offers = sound.offers; apart = sound.apart })

  all_grouped : AreGrouped (state.history ++ group_in state last callers)
  all_grouped = grouped_more state.history (group_in state last callers) sound.groups (one_group state last callers refl)

  all_legal : IsLegal state.base (state.history ++ group_in state last callers)
  all_legal = subst (λ (x : Table × List Done). IsLegal x.0 x.1) (λ i. (group_base state last callers i, group_history state last callers i)) now.legal

  -- with it each group is whole
  pub group_whole : AreWhole (length (state.history ++ group_in state last callers)) (state.history ++ group_in state last callers)
  group_whole = all_whole (state.history ++ group_in state last callers) (legal_numbered state.base (state.history ++ group_in state last callers) all_legal) all_grouped

  -- A group keeps the state sound,
  pub group_sound : IsSound (committed_group state callers)
  group_sound =
      let sure = group_doubt state last callers ∙ sound.certain alive in
      let grouped = subst (λ h. AreGrouped h) (sym (group_history state last callers)) all_grouped in
      record {
        legal = now.legal;
        certain = λ _. sure;
        doubtful = subst (λ d. IsLegal (with_group state last callers).base ((with_group state last callers).history ++ d)) (sym sure)
            (subst (λ h. IsLegal (with_group state last callers).base h) (sym (append-nil (with_group state last callers).history)) now.legal);
        groups = grouped;
        doubtful_groups = subst (λ d. AreGrouped ((with_group state last callers).history ++ d)) (sym sure) (subst (λ h. AreGrouped h) (sym (append-nil (with_group state last callers).history)) grouped);
        right = now.right;
        offers = now.offers;
        apart = now.apart;
      }

-- one of them has ended without it
pub one_without : (state : State) (caller : ℕ) → IsSound state → IsSound (with_offer (with_live state caller None) caller unoffered)
one_without state caller sound = record {
  legal = sound.legal;
  certain = sound.certain;
  doubtful = sound.doubtful;
  groups = sound.groups;
  doubtful_groups = sound.doubtful_groups;
  right = right-update (records_of state) state.live caller None (λ other ne. sound.right other) tt;
  offers = both-update state.history caller state.live state.offers sound.offers None unoffered tt;
  apart = apart-update state.names state.live caller None sound.apart (λ other ne stripe. refl);
}

without_sound : (state : State) (callers : List ℕ) → IsSound state → IsSound (without state callers)
without_sound state [] sound = sound
without_sound state (caller ∷ callers) sound = without_sound (with_offer (with_live state caller None) caller unoffered) callers (one_without state caller sound)

-- and so it does where it is in doubt.
pub doubted_sound : (state : State) → IsSound state → state.is_dead ≡ false → (callers : List ℕ) → IsSound (doubted_group state callers)
doubted_sound state sound alive callers =
    let ended = without_sound state callers sound in
    let group = group_in state (group_end state callers) callers in
    record {
      legal = ended.legal;
      certain = λ living. absurd (false≢true (sym living));
      doubtful = subst (λ (x : Table × List Done). IsLegal x.0 (x.1 ++ group)) (λ i. (sym (without_base state callers) i, sym (without_history state callers) i)) (all_legal state sound alive callers);
      groups = ended.groups;
      doubtful_groups = subst (λ h. AreGrouped (h ++ group)) (sym (without_history state callers)) (all_grouped state sound alive callers);
      right = ended.right;
      offers = ended.offers;
      apart = ended.apart;
    }
