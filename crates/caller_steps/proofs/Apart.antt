-- What holds of each caller's transaction, where one caller's changes.
use Rattle.std.proofs.Common.{◌≡◌, ◌≢◌, ℕ, zero, suc, ◌+◌, ◌-◌, inl, inr, false, nat_eq, List, [], ◌∷◌, ◌++◌, length, Option, Some, None, unwrap_or, refl, sym, ap, subst, ◌∙◌, arith}
use Rattle.std.specs.Prelude.{slice_get}
use Rattle.std.specs.Map.{update}
use Rattle.std.proofs.lemmas.Map.{update_here, update_apart}
use Rattle.std.proofs.lemmas.Bool.{cases_eq}
use Rattle.history.specs.Writes.{Table}
use Rattle.history.specs.Table.{Granted, IsRight}
use Rattle.history.specs.Locks.{Touch, touches, touched, clash, AreApart}
use Rattle.history.specs.declared.call.TableCall.{TableCall}
use Rattle.history.specs.declared.call.Reply.{Reply}
use Rattle.history.specs.declared.transaction.Done.{Done}
use Rattle.history.proofs.OneMore.{touched-push}
use Rattle.history.proofs.Modes.{clash_turned, clash_more}
use Rattle.caller_steps.specs.State.{Offer, unoffered, offered, unsettled, offers_with}
use Rattle.caller_steps.specs.Sound.{IsOfferOf}
use Rattle.caller_steps.proofs.Offering.{offers_here, offers_apart}

-- what holds for the new value at one caller and for the old ones at the others
at_update : (P : Option Granted → Type 0) (f : ℕ → Option Granted) (k : ℕ) (calls : Option Granted) (q : ℕ)
    → (q ≡ k → P calls) → (q ≢ k → P (f q)) → P (update nat_eq f k calls q)
at_update P f k calls q here apart = elim (cases_eq q k) [
  | inl is ↦ subst P (sym (ap (update nat_eq f k calls) is ∙ update_here f k calls)) (here is)
  | inr other ↦ subst P (sym (update_apart f k calls q other)) (apart other)
]

apart_turned : (names : List (List ℕ)) (one other : Granted) → AreApart names one other → AreApart names other one
apart_turned names one other apart stripe = clash_turned (touched names other stripe) (touched names one stripe) ∙ apart stripe

-- one more call clashes nowhere if neither it nor the others do
pub apart_more : (names : List (List ℕ)) (calls other : Granted) (call : TableCall) (reply : Reply) → AreApart names calls other → ((stripe : ℕ) → clash (touches names call stripe) (touched names other stripe) ≡ false)
    → AreApart names (calls ++ (call, reply) ∷ []) other
apart_more names calls other call reply before own stripe =
    ap (λ (t : Touch). clash t (touched names other stripe)) (touched-push names calls call reply stripe)
    ∙ clash_more (touched names calls stripe) (touches names call stripe) (touched names other stripe) (before stripe) (own stripe)

pub right-update : (table : Table) (f : ℕ → Option Granted) (caller : ℕ) (calls : Option Granted)
    → ((other : ℕ) → other ≢ caller → IsRight table (unwrap_or (f other) [])) → IsRight table (unwrap_or calls []) → (other : ℕ) → IsRight table (unwrap_or (update nat_eq f caller calls other) [])
right-update table f caller calls others own other = at_update (λ o. IsRight table (unwrap_or o [])) f caller calls other (λ is. own) (others other)

pub apart-update : (names : List (List ℕ)) (f : ℕ → Option Granted) (caller : ℕ) (calls : Option Granted)
    → ((one other : ℕ) → one ≢ other → AreApart names (unwrap_or (f one) []) (unwrap_or (f other) []))
    → ((other : ℕ) → other ≢ caller → AreApart names (unwrap_or calls []) (unwrap_or (f other) []))
    → (one other : ℕ) → one ≢ other → AreApart names (unwrap_or (update nat_eq f caller calls one) []) (unwrap_or (update nat_eq f caller calls other) [])
apart-update names f caller calls old own one other ne =
    at_update (λ o. AreApart names (unwrap_or o []) (unwrap_or (update nat_eq f caller calls other) [])) f caller calls one
    (λ is. at_update (λ o. AreApart names (unwrap_or calls []) (unwrap_or o [])) f caller calls other
    (λ is'. absurd (ne (is ∙ sym is'))) (λ apart. own other apart))
    (λ apart. at_update (λ o. AreApart names (unwrap_or (f one) []) (unwrap_or o [])) f caller calls other
    (λ is'. apart_turned names (unwrap_or calls []) (unwrap_or (f one) []) (own one apart)) (λ apart'. old one other ne))

offers_at : (history : List Done) (caller : ℕ) (live then : ℕ → Option Granted) (offers next : ℕ → Offer) → ((other : ℕ) → IsOfferOf history other (live other) (offers other))
    → ((other : ℕ) → other ≢ caller → (then other ≡ live other) × (next other ≡ offers other)) → IsOfferOf history caller (then caller) (next caller) → (other : ℕ) → IsOfferOf history other (then other) (next other)
offers_at history caller live then offers next old same own other = elim (cases_eq other caller) [
  | inl is ↦ subst (λ (c : ℕ). IsOfferOf history c (then c) (next c)) (sym is) own
  | inr ne ↦ (let stay = same other ne in subst (λ (x : Option Granted × Offer). IsOfferOf history other x.0 x.1) (λ i. (sym stay.0 i, sym stay.1 i)) (old other))
]

-- what is live and what is offered, where this caller's is now this
module _ (history : List Done) (caller : ℕ) (live : ℕ → Option Granted) (offers : ℕ → Offer) (old : (other : ℕ) → IsOfferOf history other (live other) (offers other)) where
  pub both-update : (calls : Option Granted) (offer : Offer) → IsOfferOf history caller calls offer → (other : ℕ) → IsOfferOf history other (update nat_eq live caller calls other) (offers_with offers caller offer other)
  both-update calls offer own other = offers_at history caller live (update nat_eq live caller calls) offers (offers_with offers caller offer) old
      (λ other ne. (update_apart live caller calls other ne, offers_apart offers caller offer other ne))
      (subst (λ (x : Option Granted × Offer). IsOfferOf history caller x.0 x.1) (λ i. (sym (update_here live caller calls) i, sym (offers_here offers caller offer) i)) own) other

  pub live-update : (calls : Option Granted) → IsOfferOf history caller calls (offers caller) → (other : ℕ) → IsOfferOf history other (update nat_eq live caller calls other) (offers other)
  live-update calls own other = offers_at history caller live (update nat_eq live caller calls) offers offers old (λ other ne. (update_apart live caller calls other ne, refl))
      (subst (λ (l : Option Granted). IsOfferOf history caller l (offers caller)) (sym (update_here live caller calls)) own) other

  pub offer-update : (offer : Offer) → IsOfferOf history caller (live caller) offer → (other : ℕ) → IsOfferOf history other (live other) (offers_with offers caller offer other)
  offer-update offer own other = offers_at history caller live live offers (offers_with offers caller offer) old (λ other ne. (refl, offers_apart offers caller offer other ne))
      (subst (λ (o : Offer). IsOfferOf history caller (live caller) o) (sym (offers_here offers caller offer)) own) other

-- one that has offered nothing may have any
pub of_none : (history : List Done) (caller : ℕ) (calls : Option Granted) (offer : Offer) → offer ≡ unoffered → IsOfferOf history caller calls offer
of_none history caller calls offer is = subst (λ (o : Offer). IsOfferOf history caller calls o) (sym is) tt

got_first : (dones more : List Done) (place : ℕ) (done : Done) → slice_get dones place ≡ Some done → slice_get (dones ++ more) place ≡ Some done
got_first [] more place done is = absurd (cc)
got_first (first ∷ dones) more zero done is = is
got_first (first ∷ dones) more (suc place) done is = got_first dones more place done is

got_last : (dones : List Done) (done : Done) → slice_get (dones ++ done ∷ []) (length dones) ≡ Some done
got_last [] done = refl
got_last (first ∷ dones) done = got_last dones done

-- what is in the history stays there,
pub offer_longer : (history more : List Done) (caller : ℕ) (live : Option Granted) (offer : Offer) → IsOfferOf history caller live offer → IsOfferOf (history ++ more) caller live offer
offer_longer history more caller live unoffered is = tt
offer_longer history more caller live offered is = is
offer_longer history more caller live (unsettled n) is = (is.0, (is.1.0, is.1.1, got_first history more (n - 1) is.1.1 is.1.2, is.1.3))

-- and one more is there.
pub offer_last : (history : List Done) (done : Done) (caller : ℕ) → done.caller ≡ caller → IsOfferOf (history ++ done ∷ []) caller None (unsettled (length history + 1))
offer_last history done caller is = (refl, (omega arith, done, ap (slice_get (history ++ done ∷ [])) (let e : length history + 1 - 1 ≡ length history = omega arith in e) ∙ got_last history done, is))
