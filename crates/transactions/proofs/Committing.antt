-- What a commit leaves, by what its step comes to.
use Rattle.std.proofs.Common.{◌≡◌, ℕ, Bool, true, false, inl, inr, List, [], ◌∷◌, ◌++◌, Option, Some, None, unwrap_or, refl, sym, ap, ◌∙◌}
use Rattle.std.proofs.lemmas.Bool.{true≢false}
use Rattle.std.proofs.lemmas.List.{append-nil}
use Rattle.std.proofs.lemmas.Map.{update_here}
use Rattle.history.specs.Table.{Granted}
use Rattle.history.specs.declared.call.Call.{Call}
use Rattle.history.specs.declared.call.Call.TheVariants.{Control}
use Rattle.history.specs.declared.call.Control.TheVariants.{Commit}
use Rattle.history.specs.declared.call.Reply.{Reply}
use Rattle.history.specs.declared.call.Reply.TheVariants.{Media, Dead}
use Rattle.history.specs.declared.transaction.Done.{Done}
use Rattle.caller_steps.specs.Fate.{is_committed, is_media}
use Rattle.caller_steps.specs.Sound.{IsSound}
use Rattle.caller_steps.specs.State.{State, calls_of, done_by}
use Rattle.caller_steps.specs.Step.{Step, StepOf}
use Rattle.caller_steps.specs.Core.{CoreView}
use Rattle.caller_steps.proofs.Fates.{Fate, refused, failed, began, granted, committed, doubted, aborted, given, settled, unsure, told, purged, refusal_none, step_fate}
use Rattle.transactions.specs.Adds.{Commits, MayDoubt, MayEnd, MayGrow}
use Rattle.transactions.specs.Told.{refusal_of}
use Rattle.transactions.specs.declared.refusal.Refusal.{Refusal}

-- what a commit may come to
data Came (caller : ℕ) (old : State) (reply : Reply) (new : State) : Type 0 where
  -- nothing changes for the callers
  unchanged : is_committed reply ≡ false → new.history ≡ old.history → new.doubt ≡ old.doubt → new.live caller ≡ old.live caller → new.offers ≡ old.offers → Came caller old reply new
  made : old.is_dead ≡ false → is_committed reply ≡ true → new.history ≡ old.history ++ done_by old caller (calls_of old caller) ∷ [] → new.doubt ≡ old.doubt → new.live caller ≡ None → new.offers ≡ old.offers → Came caller old reply new
  in_doubt : old.is_dead ≡ false → reply ≡ Media → new.history ≡ old.history → new.doubt ≡ done_by old caller (calls_of old caller) ∷ [] → new.live caller ≡ None → new.offers ≡ old.offers → Came caller old reply new

abbrev is_it : Call → Bool
is_it (Control Commit) = true
is_it call = false

module _ (old new : CoreView) (caller : ℕ) (reply : Reply) (step : Step old.limits old.state caller (Control Commit) reply new.state) where
  alive : (other : Reply) → (Dead ≡ other → ⊥) → reply ≡ other → old.state.is_dead ≡ false
  alive other apart is = by old.state.is_dead refl step.acts
    where
      by : (dead : Bool) → old.state.is_dead ≡ dead → StepOf old.limits dead (old.state.offers caller) (old.state.live caller) old.state caller (Control Commit) reply new.state → old.state.is_dead ≡ false
      by true dead says = absurd (apart (sym says.0 ∙ is))
      by false lives says = lives

  of_other : (other : Call) → is_it other ≡ false → Control Commit ≡ other → ⊥
  of_other other out is = true≢false (ap is_it is ∙ out)

  calls_are : (calls : Granted) → old.state.live caller ≡ Some calls → calls ≡ calls_of old.state caller
  calls_are calls live = sym (ap (λ (o : Option Granted). unwrap_or o []) live)

  came_by : Fate old.limits.callers old.state caller (Control Commit) reply new.state → Came caller old.state reply new.state
  came_by (refused r m index e) = unchanged (refusal_none reply r) (ap (λ (s : State). s.history) e) (ap (λ (s : State). s.doubt) e) (ap (λ (s : State). s.live caller) e) (ap (λ (s : State). s.offers) e)
  came_by (failed c r index e) = absurd (true≢false c)
  came_by (began un l c r e) = absurd (of_other _ refl c)
  came_by (granted asked calls un c l free answers index e) = absurd (of_other _ refl c)
  came_by (committed calls un c r l index e) =
      made (alive _ (λ is. true≢false (sym (ap is_committed is))) r) (ap is_committed r)
      (ap (λ (s : State). s.history) e ∙ ap (λ (calls : Granted). old.state.history ++ done_by old.state caller calls ∷ []) (calls_are calls l)) (ap (λ (s : State). s.doubt) e)
      (ap (λ (s : State). s.live caller) e ∙ update_here old.state.live caller None) (ap (λ (s : State). s.offers) e)
  came_by (doubted calls un c r l index e) =
      in_doubt (alive _ (λ is. true≢false (sym (ap is_media is))) r) r (ap (λ (s : State). s.history) e)
      (ap (λ (s : State). s.doubt) e ∙ ap (λ (calls : Granted). done_by old.state caller calls ∷ []) (calls_are calls l))
      (ap (λ (s : State). s.live caller) e ∙ update_here old.state.live caller None) (ap (λ (s : State). s.offers) e)
  came_by (aborted calls un c r l e) = absurd (of_other _ refl c)
  came_by (given calls un c r l e) = absurd (of_other _ refl c)
  came_by (settled inside un c r index e) = absurd (of_other _ refl c)
  came_by (unsure inside un c r index e) = absurd (of_other _ refl c)
  came_by (told n un c r e) = absurd (of_other _ refl c)
  came_by (purged n un l c r index e) = absurd (of_other _ refl c)

  came : Came caller old.state reply new.state
  came = came_by (step_fate old.limits old.state caller new.state (Control Commit) reply step)

  pub offers : new.state.offers ≡ old.state.offers
  offers = by came
    where
      by : Came caller old.state reply new.state → new.state.offers ≡ old.state.offers
      by (unchanged none h d l o) = o
      by (made lives is h d l o) = o
      by (in_doubt lives is h d l o) = o

  pub commits : is_committed reply ≡ true → Commits caller old new
  commits wrote = by came
    where
      by : Came caller old.state reply new.state → Commits caller old new
      by (unchanged none h d l o) = absurd (true≢false (sym wrote ∙ none))
      by (made lives is h d l o) = record { history = h; doubt = d; ended = l }
      by (in_doubt lives is h d l o) = absurd (true≢false (sym wrote ∙ ap is_committed is))

  -- what is refused,
  pub as_it_was : is_committed reply ≡ false → new.state.history ≡ old.state.history
  as_it_was unwritten = by came
    where
      by : Came caller old.state reply new.state → new.state.history ≡ old.state.history
      by (unchanged none h d l o) = h
      by (made lives is h d l o) = absurd (true≢false (sym is ∙ unwritten))
      by (in_doubt lives is h d l o) = h

  pub may_doubt : (refusal : Refusal) → refusal ≡ refusal_of reply → is_committed reply ≡ false → MayDoubt caller old new refusal
  may_doubt refusal told_as unwritten = by came
    where
      by : Came caller old.state reply new.state → MayDoubt caller old new refusal
      by (unchanged none h d l o) = inl d
      by (made lives is h d l o) = absurd (true≢false (sym is ∙ unwritten))
      by (in_doubt lives is h d l o) = inr (told_as ∙ ap refusal_of is, d)

  pub may_end : (refusal : Refusal) → refusal ≡ refusal_of reply → is_committed reply ≡ false → MayEnd caller old new refusal
  may_end refusal told_as unwritten = by came
    where
      by : Came caller old.state reply new.state → MayEnd caller old new refusal
      by (unchanged none h d l o) = inl l
      by (made lives is h d l o) = absurd (true≢false (sym is ∙ unwritten))
      by (in_doubt lives is h d l o) = inr (told_as ∙ ap refusal_of is, l)

  -- and together
  pub may_grow : IsSound old.state → MayGrow caller old new
  may_grow sound = by came
    where
      one : List Done
      one = done_by old.state caller (calls_of old.state caller) ∷ []

      by : Came caller old.state reply new.state → MayGrow caller old new
      by (unchanged none h d l o) = inl (λ i. h i ++ d i)
      by (made lives is h d l o) =
          let empty = sound.certain lives in
          let bare = d ∙ empty in
          inr (empty, (λ i. h i ++ bare i) ∙ append-nil (old.state.history ++ one))
      by (in_doubt lives is h d l o) = inr (sound.certain lives, λ i. h i ++ d i)
