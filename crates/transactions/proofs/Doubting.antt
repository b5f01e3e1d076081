-- The transaction in doubt after a commit that met a fault of the medium is the one that was begun.
use Rattle.std.proofs.Common.{◌≡◌, ℕ, List, [], ◌∷◌, Option, unwrap_or, ◌∙◌, ap, subst}
use Rattle.history.specs.Writes.{Table}
use Rattle.history.specs.Table.{Granted}
use Rattle.history.specs.Legal.{records}
use Rattle.history.specs.declared.transaction.Done.{Done}
use Rattle.caller_steps.specs.Core.{CoreView}
use Rattle.caller_steps.specs.State.{calls_of, records_of, done_by}
use Rattle.transactions.specs.Makes.{Holds, Doubts}

pub doubts : {T : Type 0} (Does : T → Table → Granted → Type 0) (caller : ℕ) (answer : T) (old begun mid new : CoreView) → begun.state.base ≡ old.state.base → begun.state.history ≡ old.state.history
    → mid.state.history ≡ begun.state.history → Holds (Does answer (records_of begun.state)) caller mid → new.state.doubt ≡ done_by mid.state caller (calls_of mid.state caller) ∷ [] → Doubts Does caller old new
doubts Does caller answer old begun mid new base history history' held is = record {
  answer = answer;
  calls = held.calls;
  doubt = is ∙ ap (λ (h : List Done). done_by (record old.state { history = h }) caller (calls_of mid.state caller) ∷ []) (history' ∙ history)
      ∙ ap (λ (o : Option Granted). done_by old.state caller (unwrap_or o []) ∷ []) held.live;
  does = subst (λ (p : Table × List Done). Does answer (records p.0 p.1) held.calls) (λ i. (base i, history i)) held.does;
}
