-- What a settle tells and commits.
use Rattle.std.proofs.Common.{◌≡◌, ◌≢◌, ℕ, ◌<◌, Bool, true, false, List, [], ◌∷◌, ◌++◌, refl, sym, ap, subst, ◌∙◌}
use Rattle.std.specs.Prelude.{All}
use Rattle.std.proofs.lemmas.Bool.{true≢false}
use Rattle.std.proofs.lemmas.List.Elements.{All-nil, All-cons}
use Rattle.history.specs.declared.call.Call.{Call}
use Rattle.history.specs.declared.call.Call.TheVariants.{Control}
use Rattle.history.specs.declared.call.Control.TheVariants.{Settle}
use Rattle.history.specs.declared.call.Reply.{Reply}
use Rattle.history.specs.declared.call.Reply.TheVariants.{Committed}
use Rattle.history.specs.declared.transaction.Done.{Done}
use Rattle.caller_steps.specs.State.{State, Offer, unoffered, offered, unsettled}
use Rattle.caller_steps.specs.Offers.{is_offered, offerers, done_in, with_done, group_in, group_end, group_done, committed_group}
use Rattle.caller_steps.specs.Room.{Limits}
use Rattle.caller_steps.specs.Step.{Step, StepOf}
use Rattle.caller_steps.specs.Fate.{is_committed}
use Rattle.caller_steps.specs.Sound.{IsCommittedAs, IsOfferOf, IsSound}
use Rattle.caller_steps.proofs.Offering.{offers_apart, offerers_once, offerer_is, group_history, group_ends}
use Rattle.caller_steps.proofs.Grouped.{group_sound}
use Rattle.caller_steps.proofs.Fates.{Fate, refused, failed, began, granted, committed, doubted, aborted, given, settled, unsure, told, purged, step_fate}

abbrev is_settle : Call → Bool
is_settle (Control Settle) = true
is_settle _ = false

abbrev number_in : Reply → ℕ
number_in (Committed n) = n
number_in reply = 0

unlike : (m : ℕ) → offered ≡ unsettled m → ⊥
unlike m e = true≢false (ap is_offered e)

-- what was offered and is committed is in the history
committed_there : (history : List Done) (caller n : ℕ) (offer : Offer) (calls : _) → offer ≡ unsettled n → IsOfferOf history caller calls offer → IsCommittedAs history caller n
committed_there history caller n offer calls is of = (subst (λ (o : Offer). IsOfferOf history caller calls o) is of).1

-- each of a group says where it ends
pub group_last : (state : State) (last : ℕ) (callers : List ℕ) → All (λ (done : Done). done.last ≡ last) (group_in state last callers)
group_last state last [] = All-nil (λ (done : Done). done.last ≡ last)
group_last state last (caller ∷ callers) = All-cons (λ (done : Done). done.last ≡ last) (done_in state last caller) (group_in (with_done state last caller) last callers) refl (group_last (with_done state last caller) last callers)

module _ (limits : Limits) (old new : State) (caller n : ℕ) where
  settle_tells : old.is_dead ≡ false → IsSound old → Fate limits.callers old caller (Control Settle) (Committed n) new → IsCommittedAs new.history caller n
  settle_tells alive sound (refused refusal sure index e) = absurd (true≢false (sym refusal))
  settle_tells alive sound (failed apart r index e) = absurd (true≢false (ap is_committed r))
  settle_tells alive sound (began un l c r e) = absurd (true≢false (ap is_settle c))
  settle_tells alive sound (granted asked calls un c l free answers index e) = absurd (true≢false (ap is_settle c))
  settle_tells alive sound (committed calls un c r l index e) = absurd (true≢false (ap is_settle c))
  settle_tells alive sound (doubted calls un c r l index e) = absurd (true≢false (ap is_settle c))
  settle_tells alive sound (aborted calls un c r l e) = absurd (true≢false (ap is_settle c))
  settle_tells alive sound (given calls un c r l e) = absurd (true≢false (ap is_settle c))
  settle_tells alive sound (settled inside has c r index e) =
      let os = offerers limits.callers old in
      let at = group_ends old (group_end old os) os caller (offerers_once limits.callers old) (offerer_is limits.callers old caller inside has) in
      let there = committed_there (committed_group old os).history caller (group_done old os caller).at ((committed_group old os).offers caller) ((committed_group old os).live caller) at.offer ((group_sound old sound alive os).offers caller) in
      subst (λ (x : List Done × ℕ). IsCommittedAs x.0 caller x.1) (λ i. (sym (ap (λ (s : State). s.history) e) i, sym (ap number_in r) i)) there
  settle_tells alive sound (unsure inside has c r index e) = absurd (true≢false (ap is_committed r))
  settle_tells alive sound (purged m un l c r index e) = absurd (true≢false (ap is_settle c))
  settle_tells alive sound (told m has c r e) =
      let there = committed_there old.history caller m (old.offers caller) (old.live caller) has (sound.offers caller) in
      subst (λ (x : List Done × ℕ). IsCommittedAs x.0 caller x.1) (λ i. (sym (ap (λ (s : State). s.history) e) i, sym (ap number_in r) i)) there

  tells_if : (dead : Bool) → old.is_dead ≡ dead → IsSound old → Step limits old caller (Control Settle) (Committed n) new → IsCommittedAs new.history caller n
  tells_if true dead sound step = absurd (true≢false (ap is_committed (subst (λ (b : Bool). StepOf limits b (old.offers caller) (old.live caller) old caller (Control Settle) (Committed n) new) dead step.acts).0))
  tells_if false alive sound step = settle_tells alive sound (step_fate limits old caller new (Control Settle) (Committed n) step)

  -- The number that a settle tells is that of a transaction of its caller's in the history.
  pub settle_told : IsSound old → Step limits old caller (Control Settle) (Committed n) new → IsCommittedAs new.history caller n
  settle_told sound step = tells_if old.is_dead refl sound step

  -- Where it was still offered, all that were offered were committed with it, as one group behind the history.
  settles_all : old.offers caller ≡ offered → Fate limits.callers old caller (Control Settle) (Committed n) new
      → (new.history ≡ old.history ++ group_in old (group_end old (offerers limits.callers old)) (offerers limits.callers old))
      × ((other : ℕ) → other < limits.callers → other ≢ caller → old.offers other ≡ offered → new.offers other ≡ unsettled (group_done old (offerers limits.callers old) other).at)
  settles_all gave (refused refusal sure index e) = absurd (true≢false (sym refusal))
  settles_all gave (failed apart r index e) = absurd (true≢false (ap is_committed r))
  settles_all gave (began un l c r e) = absurd (true≢false (ap is_settle c))
  settles_all gave (granted asked calls un c l free answers index e) = absurd (true≢false (ap is_settle c))
  settles_all gave (committed calls un c r l index e) = absurd (true≢false (ap is_settle c))
  settles_all gave (doubted calls un c r l index e) = absurd (true≢false (ap is_settle c))
  settles_all gave (aborted calls un c r l e) = absurd (true≢false (ap is_settle c))
  settles_all gave (given calls un c r l e) = absurd (true≢false (ap is_settle c))
  settles_all gave (settled inside has c r index e) =
      let os = offerers limits.callers old in (
        ap (λ (s : State). s.history) e ∙ group_history old (group_end old os) os,
        λ other lt ne is. ap (λ (s : State). s.offers other) e ∙ offers_apart (committed_group old os).offers caller unoffered other ne
            ∙ (group_ends old (group_end old os) os other (offerers_once limits.callers old) (offerer_is limits.callers old other lt is)).offer,
      )
  settles_all gave (unsure inside has c r index e) = absurd (true≢false (ap is_committed r))
  settles_all gave (purged m un l c r index e) = absurd (true≢false (ap is_settle c))
  settles_all gave (told m has c r e) = absurd (unlike m (sym gave ∙ has))

  pub settle_commits : old.offers caller ≡ offered → Step limits old caller (Control Settle) (Committed n) new
      → (new.history ≡ old.history ++ group_in old (group_end old (offerers limits.callers old)) (offerers limits.callers old))
      × ((other : ℕ) → other < limits.callers → other ≢ caller → old.offers other ≡ offered → new.offers other ≡ unsettled (group_done old (offerers limits.callers old) other).at)
  settle_commits gave step = settles_all gave (step_fate limits old caller new (Control Settle) (Committed n) step)
