-- What comes of transactions that several callers have offered: they are committed together, all or none.
use Rattle.std.specs.Prelude.{ℕ, ◌+◌, Bool, true, false, ◌&&◌, ◌||◌, not, nat_eq, if◌then◌else◌, List, [], ◌∷◌, ◌++◌, length, filter, flat_map, None, is_some}
use Rattle.std.specs.List.{fold, scan, range_with_len}
use Rattle.history.specs.Log.{log_of}
use Rattle.history.specs.Writes.{Write}
use Rattle.history.specs.declared.call.Call.{Call}
use Rattle.history.specs.declared.call.Call.TheVariants.{Begin, Control}
use Rattle.history.specs.declared.call.Control.TheVariants.{Settle, Purge}
use Rattle.history.specs.declared.transaction.Done.{Done}
use Rattle.caller_steps.specs.State.{State, Offer, unoffered, offered, unsettled, calls_of, with_live, with_offer}

abbrev pub is_offered : Offer → Bool
is_offered offered = true
is_offered _ = false

abbrev pub is_unoffered : Offer → Bool
is_unoffered unoffered = true
is_unoffered _ = false

-- the callers that have offered a transaction which no group has committed yet, rising, of the first so many callers
abbrev pub offerers : ℕ → State → List ℕ
offerers callers state = filter (λ caller. is_offered (state.offers caller)) (range_with_len 0 callers)

-- the caller has a live transaction that takes calls
abbrev pub takes_calls : State → ℕ → Bool
takes_calls state caller = is_unoffered (state.offers caller) && is_some (state.live caller)

-- the caller has a transaction that is live, or one that it has not settled
abbrev pub is_engaged : State → ℕ → Bool
is_engaged state caller = is_some (state.live caller) || not (is_unoffered (state.offers caller))

-- Where a caller's call can be done: a begin or a purge outside of any transaction of its own, a settle once it has offered one, and any other
-- call within one that it has not offered.
abbrev pub may_do : State → ℕ → Call → Bool
may_do state caller Begin = not (is_engaged state caller)
may_do state caller (Control Purge) = not (is_engaged state caller)
may_do state caller (Control Settle) = not (is_unoffered (state.offers caller))
may_do state caller call = takes_calls state caller

-- a caller's transaction as the next one of the history, in a group that ends at this number
abbrev pub done_in : State → ℕ → ℕ → Done
done_in state last caller = record { caller = caller; calls = calls_of state caller; at = length state.history + 1; last = last }

-- the state once it is committed, and its caller has not settled
abbrev pub with_done : State → ℕ → ℕ → State
with_done state last caller = record (with_offer (with_live state caller None) caller (unsettled (length state.history + 1))) { history = state.history ++ done_in state last caller ∷ [] }

-- the state once those of these callers are committed, one after another
abbrev pub with_group : State → ℕ → List ℕ → State
with_group state last callers = fold (λ was caller. with_done was last caller) state callers

-- those transactions
abbrev pub group_in : State → ℕ → List ℕ → List Done
group_in state last callers = scan (λ was caller. with_done was last caller) (λ was caller. done_in was last caller) state callers

-- The number of the last of them: a group comes behind all that was committed before.
abbrev pub group_end : State → List ℕ → ℕ
group_end state callers = length state.history + length callers

-- the number of a caller's transaction among those of these callers, the first of which gets this number
abbrev pub number_among : ℕ → List ℕ → ℕ → ℕ
number_among n [] caller = n
number_among n (first ∷ callers) caller = if nat_eq first caller then n else number_among (n + 1) callers caller

-- a caller's transaction among those of these callers
abbrev pub group_done : State → List ℕ → ℕ → Done
group_done state callers caller = record { caller = caller; calls = calls_of state caller; at = number_among (length state.history + 1) callers caller; last = group_end state callers }

-- what all of them have written, that of one after that of another
abbrev pub group_writes : State → List ℕ → List Write
group_writes state callers = flat_map (λ caller. (log_of (calls_of state caller)).writes) callers

-- the state once they have ended without it
abbrev pub without : State → List ℕ → State
without state callers = fold (λ was caller. with_offer (with_live was caller None) caller unoffered) state callers

-- they were committed together
abbrev pub committed_group : State → List ℕ → State
committed_group state callers = with_group state (group_end state callers) callers

-- the medium failed in their commit, so that all of them are in doubt
abbrev pub doubted_group : State → List ℕ → State
doubted_group state callers = record (without state callers) { doubt = group_in state (group_end state callers) callers; is_dead = true }
