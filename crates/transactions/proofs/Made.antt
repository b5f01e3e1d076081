-- What a transaction comes to whose work is done: one transaction more that does the work, committed or in doubt.
use Rattle.std.proofs.Common.{◌≡◌, ◌≢◌, ℕ, Bool, true, false, ⊎_elim, inl, inr, List, [], ◌∷◌, ◌++◌, Option, unwrap_or, sym, ◌∙◌, ap, subst}
use Rattle.std.proofs.lemmas.Bool.{true≢false}
use Rattle.history.specs.Legal.{records}
use Rattle.history.specs.Table.{Granted}
use Rattle.history.specs.Writes.{Table}
use Rattle.history.specs.declared.call.Call.{Call}
use Rattle.history.specs.declared.call.Call.TheVariants.{Control}
use Rattle.history.specs.declared.call.Control.TheVariants.{Commit}
use Rattle.history.specs.declared.call.Reply.{Reply}
use Rattle.history.specs.declared.transaction.Done.{Done}
use Rattle.caller_steps.specs.Core.{CoreView}
use Rattle.caller_steps.specs.Fate.{Moves}
use Rattle.caller_steps.specs.State.{calls_of, records_of, done_by}
use Rattle.transactions.specs.Adds.{MayGrow}
use Rattle.transactions.specs.Makes.{Holds, IsMade, MayAdd}

abbrev commits : Call → Bool
commits (Control Commit) = true
commits call = false

-- a commit changes no other caller's transaction
pub others_stay : (callers caller : ℕ) (old new : CoreView) (reply : Reply) → Moves callers old.state caller (Control Commit) reply new.state → (other : ℕ) → other ≢ caller → new.state.live other ≡ old.state.live other
others_stay callers caller old new reply moves other apart = ⊎_elim (λ stays. stays.live) (λ ends. absurd (true≢false (ap commits ends.settles))) (moves.others other apart)

module _ {T : Type 0} (Does : T → Table → Granted → Type 0) (caller : ℕ) (answer : T) (old begun mid : CoreView) (base : begun.state.base ≡ old.state.base) (history : begun.state.history ≡ old.state.history)
    (history' : mid.state.history ≡ begun.state.history) (held : Holds (Does answer (records_of begun.state)) caller mid) where
  does : Does answer (records_of old.state) held.calls
  does = subst (λ (p : Table × List Done). Does answer (records p.0 p.1) held.calls) (λ i. (base i, history i)) held.does

  -- the transaction that is committed stands behind the history before
  one_more : mid.state.history ++ done_by mid.state caller (calls_of mid.state caller) ∷ [] ≡ old.state.history ++ done_by old.state caller held.calls ∷ []
  one_more = ap (λ (h : List Done). h ++ done_by (record old.state { history = h }) caller (calls_of mid.state caller) ∷ []) (history' ∙ history)
      ∙ ap (λ (o : Option Granted). old.state.history ++ done_by old.state caller (unwrap_or o []) ∷ []) held.live

  pub made_by : (new : CoreView) → new.state.history ≡ mid.state.history ++ done_by mid.state caller (calls_of mid.state caller) ∷ [] → IsMade (Does answer) caller old new
  made_by new is = record { calls = held.calls; history = is ∙ one_more; does = does }

  pub grown_by : (new : CoreView) → mid.state.doubt ≡ old.state.doubt → MayGrow caller mid new → MayAdd Does caller old new
  grown_by new doubt grows =
      let same = history' ∙ history in
      ⊎_elim (λ is. inl (is ∙ (λ i. same i ++ doubt i)))
      (λ adds. inr record { answer = answer; calls = held.calls; before = sym doubt ∙ adds.0; left = adds.1 ∙ one_more; does = does }) grows

  pub grown_after : (refused new : CoreView) → new.state.history ≡ refused.state.history → new.state.doubt ≡ refused.state.doubt → mid.state.doubt ≡ old.state.doubt → MayGrow caller mid refused → MayAdd Does caller old new
  grown_after refused new left left' doubt grows =
      let still : new.state.history ++ new.state.doubt ≡ refused.state.history ++ refused.state.doubt = λ i. left i ++ left' i in
      ⊎_elim (λ is. inl (still ∙ is)) (λ adds. inr record { answer = adds.answer; calls = adds.calls; before = adds.before; left = still ∙ adds.left; does = adds.does }) (grown_by refused doubt grows)
