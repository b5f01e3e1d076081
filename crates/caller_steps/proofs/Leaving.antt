-- What a group leaves: all its writes in the records, and its callers without calls.
use Rattle.std.proofs.Common.{◌≡◌, ℕ, true, false, List, [], ◌∷◌, ◌++◌, Option, unwrap_or, refl, sym, ap, ◌∙◌}
use Rattle.history.specs.Table.{Granted}
use Rattle.history.specs.Log.{log_of}
use Rattle.history.specs.Writes.{all_written}
use Rattle.history.proofs.OneMore.{records-push}
use Rattle.history.proofs.Pending.{all_written-append, left_is_written}
use Rattle.caller_steps.specs.State.{State, calls_of, records_of}
use Rattle.caller_steps.specs.Offers.{done_in, with_done, with_group, group_writes}
use Rattle.caller_steps.proofs.Offering.{is_in, AreOnce, not_first, done_apart, group_apart, group_ends}
use Rattle.caller_steps.proofs.Grouped.{IsRightNow, one_right}

-- what the others have written does not depend on one that is committed
writes_later : (state : State) (last first : ℕ) (callers : List ℕ) → is_in first callers ≡ false → group_writes (with_done state last first) callers ≡ group_writes state callers
writes_later state last first [] out = refl
writes_later state last first (caller ∷ callers) out =
    let parts = not_first first caller callers out in
    λ i. (log_of (unwrap_or ((done_apart state last first caller (λ same. parts.0 (sym same))).live i) [])).writes ++ writes_later state last first callers parts.1 i

-- So the records after a group have the writes of all of it.
pub group_records : (state : State) (last : ℕ) (callers : List ℕ) → IsRightNow state → AreOnce callers → records_of (with_group state last callers) ≡ all_written (records_of state) (group_writes state callers)
group_records state last [] now once = refl
group_records state last (caller ∷ callers) now once =
    group_records (with_done state last caller) last callers (one_right state last caller now) once.1
    ∙ (λ i. all_written ((records-push state.base state.history (done_in state last caller) ∙ left_is_written (records_of state) (calls_of state caller) (now.right caller)) i) (writes_later state last caller callers once.0 i))
    ∙ sym (all_written-append (records_of state) (log_of (calls_of state caller)).writes (group_writes state callers))

-- one of theirs has no calls then, and another's stay
pub calls_in_group : (state : State) (last : ℕ) (callers : List ℕ) (caller : ℕ) → AreOnce callers → is_in caller callers ≡ true → calls_of (with_group state last callers) caller ≡ []
calls_in_group state last callers caller once is = ap (λ (o : Option Granted). unwrap_or o []) (group_ends state last callers caller once is).live

pub calls_apart : (state : State) (last : ℕ) (callers : List ℕ) (caller : ℕ) → is_in caller callers ≡ false → calls_of (with_group state last callers) caller ≡ calls_of state caller
calls_apart state last callers caller out = ap (λ (o : Option Granted). unwrap_or o []) (group_apart state last callers caller out).live
