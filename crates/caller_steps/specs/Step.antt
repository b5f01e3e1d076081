-- How a call of a caller is answered, and what it leaves.
use Rattle.std.specs.Prelude.{ℕ, ◌≡◌, ◌+◌, ◌<◌, ◌≤◌, ◌⊎◌, Bool, true, false, not, IsTrue, IsFalse, List, [], ◌∷◌, ◌++◌, length, Option, Some, None}
use Rattle.mars_base.specs.Check.{Check, test}
use Rattle.history.specs.Locks.{has_table}
use Rattle.history.specs.Table.{Granted, Answers, has_save}
use Rattle.history.specs.declared.call.Call.{Call}
use Rattle.history.specs.declared.call.Call.TheVariants.{Begin, Table, Control}
use Rattle.history.specs.declared.call.TableCall.{TableCall}
use Rattle.history.specs.declared.call.TableCall.TheVariants.{Save, Back}
use Rattle.history.specs.declared.call.Control.TheVariants.{Commit, Abort, Offer, Settle, Purge}
use Rattle.history.specs.declared.call.Reply.{Reply}
use Rattle.history.specs.declared.call.Reply.TheVariants.{Fine, Committed, Purged, NoTransaction, NoTable, Already, NoSave, SavesFull, Busy, Media, Dead, NoMemory}
use Rattle.caller_steps.specs.State as state
use Rattle.caller_steps.specs.State.{State, Index, unoffered, offered, unsettled, view_of, with_live, with_offer}
use Rattle.caller_steps.specs.Offers.{offerers, with_group, group_in, number_among, group_writes, without}
use Rattle.caller_steps.specs.Locked.{IsFree, IsBusyWith}
use Rattle.caller_steps.specs.Room.{Limits, IsShown, room_for, Indexes, Settles}
use Rattle.caller_steps.specs.Purging.{Purges}

-- the reply is this one, and nothing changes
abbrev pub Says : Reply → State → Reply → State → Type 0
Says answer old reply new = (reply ≡ answer) × (new ≡ old)

-- the call is granted, with the one-thread table's reply on what the caller sees
abbrev pub Grants : Limits → Granted → State → ℕ → TableCall → Reply → State → Type 0
Grants limits calls old caller call reply new = Answers (view_of old caller) call reply × room_for limits old caller call None
    × (index : Index) × Indexes limits call reply old.index index × (new ≡ record (with_live old caller (Some (calls ++ (call, reply) ∷ []))) { index = index })

-- the array is full; the index may have changed
abbrev pub Refuses : Limits → State → ℕ → TableCall → Reply → State → Type 0
Refuses limits old caller call reply new = room_for limits old caller call (Some reply)
    × (index : Index) × Indexes limits call reply old.index index × (new ≡ record old { index = index })

-- the medium failed, and the index may then be anything
abbrev pub Fails : State → Reply → State → Type 0
Fails old reply new = (reply ≡ Media) × (index : Index) × (new ≡ record old { index = index; is_dead = true })

-- a call that names a table, as it does not find one where there are none: it looks a key up in the index, or scans it, and so uses the medium
abbrev pub uses_index : TableCall → Bool
uses_index call = not (has_table [] call)

-- The locks come before all that the array answers, and a caller that holds a stripe of the call is named; memory may run out at any point.
abbrev pub Asks : Limits → Granted → State → ℕ → TableCall → Reply → State → Type 0
Asks limits calls old caller call reply new = Says NoMemory old reply new ⊎ (((holder : ℕ) × IsBusyWith old caller call holder × Says (Busy holder) old reply new)
    ⊎ (IsFree old caller call × (Grants limits calls old caller call reply new ⊎ (Refuses limits old caller call reply new ⊎ (IsTrue (uses_index call) × Fails old reply new)))))

-- The transactions of these callers are committed as one group behind the history, by rising caller; the data takes the writes of all of them, and
-- the caller's own has then ended.
abbrev pub Commits : List ℕ → State → ℕ → Reply → State → Type 0
Commits group old caller reply new = (reply ≡ Committed (number_among (length old.history + 1) group caller)) × (index : Index) × Settles (group_writes old group) old.index index
    × (new ≡ record (with_offer (with_group old (length old.history + length group) group) caller unoffered) { index = index })

-- the medium failed in a commit of a group that has written something, so all of it has ended and is in doubt
abbrev pub Doubts : List ℕ → State → Reply → State → Type 0
Doubts group old reply new = (0 < length (group_writes old group)) × (reply ≡ Media) × (index : Index)
    × (new ≡ record (without old group) { doubt = group_in old (length old.history + length group) group; index = index; is_dead = true })

-- what a call within a transaction needs before memory and locks are asked for: that there are fewer than 32 saves, the save of a way back, or its table
abbrev pub may_ask : State → ℕ → TableCall → Check Reply
may_ask old caller Save = test (length (view_of old caller).saves < 32) SavesFull
may_ask old caller (Back n) = test (IsTrue (has_save (view_of old caller).saves n)) (NoSave n)
may_ask old caller call = test (IsTrue (has_table old.names call)) NoTable

-- A step by whether the medium has failed in an earlier call, what the caller has offered, and its live transaction. A purge comes outside of any
-- transaction of its caller's, and may come between the calls of others. A commit is that of a group of one. What is offered takes no calls, and
-- until it is settled its caller begins no other transaction and purges nothing. A settle commits all that were offered, unless a group has
-- committed the caller's own already.
abbrev pub StepOf : Limits → Bool → state.Offer → Option Granted → State → ℕ → Call → Reply → State → Type 0
StepOf limits true offer live old caller call reply new = Says Dead old reply new
StepOf limits false unoffered None old caller Begin reply new = (reply ≡ Fine) × (new ≡ with_live old caller (Some []))
StepOf limits false unoffered None old caller (Control Purge) reply new = ((n : ℕ) × (reply ≡ Purged n) × Purges limits old n new) ⊎ Fails old reply new
StepOf limits false unoffered (Some calls) old caller (Table call) reply new = (may_ask old caller call (Some reply) × (new ≡ old))
    ⊎ (may_ask old caller call None × Asks limits calls old caller call reply new)
StepOf limits false unoffered (Some calls) old caller (Control Commit) reply new = Says NoMemory old reply new
    ⊎ (Commits (caller ∷ []) old caller reply new ⊎ Doubts (caller ∷ []) old reply new)
StepOf limits false unoffered (Some calls) old caller (Control Abort) reply new = (reply ≡ Fine) × (new ≡ with_live old caller None)
StepOf limits false unoffered (Some calls) old caller (Control Offer) reply new = (reply ≡ Fine) × (new ≡ with_offer old caller offered)
StepOf limits false offered live old caller (Control Settle) reply new = Says NoMemory old reply new
    ⊎ ((caller < limits.callers) × (Commits (offerers limits.callers old) old caller reply new ⊎ Doubts (offerers limits.callers old) old reply new))
StepOf limits false (unsettled n) live old caller (Control Settle) reply new = (reply ≡ Committed n) × (new ≡ with_offer (with_live old caller None) caller unoffered)
StepOf limits false offer live old caller Begin reply new = Says Already old reply new
StepOf limits false offer live old caller (Control Purge) reply new = Says Already old reply new
StepOf limits false offer live old caller call reply new = Says NoTransaction old reply new

-- A call of a caller, its reply, and what it leaves. If the data showed the old state, then it shows the new one, unless the medium failed: so
-- neither the slot that is due nor what a purge keeps is free between two steps, and no data but that of the records.
pub record Step (limits : Limits) (old : State) (caller : ℕ) (call : Call) (reply : Reply) (new : State) : Type 0 where
  pub acts : StepOf limits old.is_dead (old.offers caller) (old.live caller) old caller call reply new
  pub shown : IsFalse new.is_dead → IsShown limits old → IsShown limits new

-- calls of callers and their replies, one after another
abbrev pub Runs : Limits → State → List (ℕ × Call × Reply) → State → Type 0
Runs limits old [] new = new ≡ old
Runs limits old (turn ∷ turns) new = (mid : State) × Step limits old turn.0 turn.1 turn.2 mid × Runs limits mid turns new

-- the same, where the data of each state that is not dead shows it
abbrev pub RunsShown : (State → Type 0) → Limits → State → List (ℕ × Call × Reply) → State → Type 0
RunsShown shows limits old [] new = new ≡ old
RunsShown shows limits old (turn ∷ turns) new = (mid : State) × Step limits old turn.0 turn.1 turn.2 mid × (IsFalse mid.is_dead → shows mid) × RunsShown shows limits mid turns new
