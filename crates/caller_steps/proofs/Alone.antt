-- A commit is that of a group of one.
use Rattle.std.proofs.Common.{◌≡◌, ◌+◌, ◌<◌, ℕ, inl, inr, true, List, [], ◌∷◌, ◌++◌, length, Option, Some, None, unwrap_or, refl, sym, ap, subst, ◌∙◌, nat_eq, eq-eqb}
use Rattle.std.proofs.lemmas.Bool.{cases_eq, cond-true}
use Rattle.std.proofs.lemmas.List.{append-nil}
use Rattle.history.specs.Log.{log_of}
use Rattle.history.specs.Table.{Granted}
use Rattle.history.specs.Writes.{Write}
use Rattle.history.specs.declared.call.Reply.{Reply}
use Rattle.history.specs.declared.call.Reply.TheVariants.{Committed, Media}
use Rattle.caller_steps.specs.State.{State, Index, Offer, unoffered, unsettled, offers_with, calls_of, with_live, with_offer, done_by}
use Rattle.caller_steps.specs.Offers.{with_group, group_in, group_end, number_among, group_writes, without}
use Rattle.caller_steps.specs.Room.{Settles}
use Rattle.caller_steps.specs.Step.{Commits, Doubts}
use Rattle.caller_steps.proofs.Offering.{offers_here, offers_apart}

-- the transaction of these calls is the next one of the history
abbrev pub CommitsAlone : Granted → State → ℕ → Reply → State → Type 0
CommitsAlone calls old caller reply new = (reply ≡ Committed (length old.history + 1)) × (index : Index) × Settles (log_of calls).writes old.index index
    × (new ≡ record (with_live old caller None) { history = old.history ++ done_by old caller calls ∷ []; index = index })

-- it is in doubt
abbrev pub DoubtsAlone : Granted → State → ℕ → Reply → State → Type 0
DoubtsAlone calls old caller reply new =
    (0 < length (log_of calls).writes) × (reply ≡ Media) × (index : Index) × (new ≡ record (with_live old caller None) { doubt = done_by old caller calls ∷ []; index = index; is_dead = true })

-- what was not offered is so again once it is settled
same_offer : (offers mid : ℕ → Offer) (caller : ℕ) → offers caller ≡ unoffered → ((other : ℕ) → (other ≡ caller → ⊥) → mid other ≡ offers other) → (other : ℕ) → offers_with mid caller unoffered other ≡ offers other
same_offer offers mid caller un apart other = elim (cases_eq other caller) [
  | inl e ↦ subst (λ (c : ℕ). offers_with mid caller unoffered c ≡ offers c) (sym e) (offers_here mid caller unoffered ∙ sym un)
  | inr ne ↦ offers_apart mid caller unoffered other ne ∙ apart other ne
]

module _ (calls : Granted) (old : State) (caller : ℕ) (un : old.offers caller ≡ unoffered) (is : old.live caller ≡ Some calls) where
  at : calls_of old caller ≡ calls
  at = ap (λ (o : Option Granted). unwrap_or o []) is

  number_is : (n : ℕ) → number_among n (caller ∷ []) caller ≡ n
  number_is n = cond-true (nat_eq caller caller) n (n + 1) (eq-eqb caller caller refl)

  writes_are : group_writes old (caller ∷ []) ≡ (log_of calls).writes
  writes_are = append-nil (log_of (calls_of old caller)).writes ∙ ap (λ (cs : Granted). (log_of cs).writes) at

  settled_offers : offers_with (offers_with old.offers caller (unsettled (length old.history + 1))) caller unoffered ≡ old.offers
  settled_offers = λ i other. same_offer old.offers (offers_with old.offers caller (unsettled (length old.history + 1))) caller un (λ one ne. offers_apart old.offers caller (unsettled (length old.history + 1)) one ne) other i

  committed_is : with_offer (with_group old (group_end old (caller ∷ [])) (caller ∷ [])) caller unoffered ≡ record (with_live old caller None) { history = old.history ++ done_by old caller calls ∷ [] }
  committed_is = λ i. record (with_live old caller None) { offers = settled_offers i; history = old.history ++ done_by old caller (at i) ∷ [] }

  left_offers : offers_with old.offers caller unoffered ≡ old.offers
  left_offers = λ i other. same_offer old.offers old.offers caller un (λ one ne. refl) other i

  doubted_is : (let state : State = record (without old (caller ∷ [])) { doubt = group_in old (group_end old (caller ∷ [])) (caller ∷ []); is_dead = true } in
      state ≡ record (with_live old caller None) { doubt = done_by old caller calls ∷ []; is_dead = true })
  doubted_is = λ i. record (with_live old caller None) { offers = left_offers i; doubt = done_by old caller (at i) ∷ []; is_dead = true }

  module _ (reply : Reply) (new : State) where
    pub commits_alone : Commits (caller ∷ []) old caller reply new → CommitsAlone calls old caller reply new
    commits_alone (re, index, settles, e) = (
      re ∙ ap (λ (n : ℕ). Committed n) (number_is (length old.history + 1)),
      index,
      subst (λ (writes : List Write). Settles writes old.index index) writes_are settles,
      e ∙ ap (λ (s : State). record s { index = index }) committed_is,
    )

    pub alone_commits : CommitsAlone calls old caller reply new → Commits (caller ∷ []) old caller reply new
    alone_commits (re, index, settles, e) = (
      re ∙ sym (ap (λ (n : ℕ). Committed n) (number_is (length old.history + 1))),
      index,
      subst (λ (writes : List Write). Settles writes old.index index) (sym writes_are) settles,
      e ∙ sym (ap (λ (s : State). record s { index = index }) committed_is),
    )

    pub doubts_alone : Doubts (caller ∷ []) old reply new → DoubtsAlone calls old caller reply new
    doubts_alone (wrote, re, index, e) = (
      subst (λ (writes : List Write). 0 < length writes) writes_are wrote,
      re,
      index,
      e ∙ ap (λ (s : State). record s { index = index }) doubted_is,
    )

    pub alone_doubts : DoubtsAlone calls old caller reply new → Doubts (caller ∷ []) old reply new
    alone_doubts (wrote, re, index, e) = (
      subst (λ (writes : List Write). 0 < length writes) (sym writes_are) wrote,
      re,
      index,
      e ∙ sym (ap (λ (s : State). record s { index = index }) doubted_is),
    )
