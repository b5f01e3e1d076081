-- The transactions of a history are numbered in their order.
use Rattle.std.proofs.Common.{◌≡◌, ℕ, zero, suc, ◌+◌, Bool, true, false, List, [], ◌∷◌, ◌++◌, length, drop, sym, subst, arith}
use Rattle.std.specs.Prelude.{if◌then◌else◌}
use Rattle.history.specs.Legal.{AreNumberedFrom}
use Rattle.history.specs.declared.transaction.Done.{Done}
use Rattle.std.proofs.lemmas.List.{append-nil}
use Rattle.history.specs.declared.call.Call.{Call}
use Rattle.history.specs.declared.call.Call.TheVariants.{Control}
use Rattle.history.specs.declared.call.Control.TheVariants.{Settle}
use Rattle.history.specs.declared.call.Reply.{Reply}
use Rattle.caller_steps.specs.State.{State, calls_of, done_by}
use Rattle.caller_steps.specs.Offers.{is_offered, offerers, done_in, with_done, with_group, group_in, group_end}
use Rattle.caller_steps.specs.Fate.{is_committed, committed_by, history_after}
use Rattle.caller_steps.proofs.Offering.{group_history}
use Rattle.caller_steps.specs.Room.{Limits}
use Rattle.caller_steps.specs.Run.{Turn, GoesAlong}

one_more : (n : ℕ) (dones : List Done) (done : Done) → AreNumberedFrom n dones → done.at ≡ n + length dones → AreNumberedFrom n (dones ++ done ∷ [])
one_more n [] done h e = (omega arith, tt)
one_more n (first ∷ dones) done h e = (h.0, one_more (n + 1) dones done h.1 (omega arith))

-- those behind the first so many go on from there
pub behind_numbered : (n from : ℕ) (dones : List Done) → AreNumberedFrom n dones → AreNumberedFrom (n + from) (drop from dones)
behind_numbered n zero dones h = subst (λ m. AreNumberedFrom m dones) (omega arith) h
behind_numbered n (suc from) [] h = tt
behind_numbered n (suc from) (done ∷ dones) h = subst (λ m. AreNumberedFrom m (drop from dones)) (omega arith) (behind_numbered (n + 1) from dones h.1)

group_numbered : (state : State) (last : ℕ) (callers : List ℕ) → AreNumberedFrom 1 state.history → AreNumberedFrom 1 (with_group state last callers).history
group_numbered state last [] h = h
group_numbered state last (caller ∷ callers) h = group_numbered (with_done state last caller) last callers (one_more 1 state.history (done_in state last caller) h (omega arith))

settled_numbered : (old : State) (callers : List ℕ) (b : Bool) → AreNumberedFrom 1 old.history → AreNumberedFrom 1 (old.history ++ (if b then group_in old (group_end old callers) callers else []))
settled_numbered old callers true h = subst (λ (l : List Done). AreNumberedFrom 1 l) (group_history old (group_end old callers) callers) (group_numbered old (group_end old callers) callers h)
settled_numbered old callers false h = subst (λ (l : List Done). AreNumberedFrom 1 l) (sym (append-nil old.history)) h

committed_numbered : (callers : ℕ) (old : State) (caller : ℕ) (call : Call) → AreNumberedFrom 1 old.history → AreNumberedFrom 1 (old.history ++ committed_by callers old caller call)
committed_numbered callers old caller (Control Settle) h = settled_numbered old (offerers callers old) (is_offered (old.offers caller)) h
committed_numbered callers old caller call h = one_more 1 old.history (done_by old caller (calls_of old caller)) h (omega arith)

step_numbered : (callers : ℕ) (old : State) (caller : ℕ) (call : Call) (reply : Reply) → AreNumberedFrom 1 old.history → AreNumberedFrom 1 (history_after callers old caller call reply)
step_numbered callers old caller call reply h = go (is_committed reply)
  where
    go : (b : Bool) → AreNumberedFrom 1 (if b then old.history ++ committed_by callers old caller call else old.history)
    go true = committed_numbered callers old caller call h
    go false = h

-- A run numbers the transactions that it commits in their order.
pub turns_number : (tells : Bool) (limits : Limits) (first now : State) (turns : List Turn) → GoesAlong tells limits first turns now → AreNumberedFrom 1 first.history → AreNumberedFrom 1 now.history
turns_number tells limits first now [] a h = subst (λ (s : State). AreNumberedFrom 1 s.history) (sym a) h
turns_number tells limits first now (turn ∷ turns) a h =
    turns_number tells limits a.0 now turns a.2 (subst (λ l. AreNumberedFrom 1 l) (sym a.1.moves.history) (step_numbered limits.callers first turn.0 turn.1 turn.2 h))
