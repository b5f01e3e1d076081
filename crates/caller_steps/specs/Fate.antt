-- What replies say about transactions.
use Rattle.std.specs.Prelude.{ℕ, ◌≡◌, ◌≢◌, ◌⊎◌, Bool, true, false, ◌||◌, if◌then◌else◌, IsTrue, IsFalse, List, [], ◌∷◌, ◌++◌, Option, Some, None}
use Rattle.history.specs.Table.{Granted}
use Rattle.history.specs.declared.call.Call.{Call}
use Rattle.history.specs.declared.call.Call.TheVariants.{Begin, Table, Control}
use Rattle.history.specs.declared.call.Control.TheVariants.{Offer, Settle}
use Rattle.history.specs.declared.call.Reply.{Reply}
use Rattle.history.specs.declared.call.Reply.TheVariants.{Fine, Found, Absent, Listed, Saved, Committed, Purged, Busy, LogFull, SlotsFull, PagesFull, Media, Dead, NoMemory}
use Rattle.history.specs.declared.transaction.Done.{Done}
use Rattle.caller_steps.specs.State as state
use Rattle.caller_steps.specs.State.{State, unoffered, offered, unsettled, calls_of, commits_of, done_by}
use Rattle.caller_steps.specs.Offers.{is_offered, may_do, offerers, group_in, group_end, group_done}

-- a reply to a call that was not done
abbrev pub is_refusal : Reply → Bool
is_refusal Fine = false
is_refusal (Found value) = false
is_refusal Absent = false
is_refusal (Listed rows) = false
is_refusal (Saved n) = false
is_refusal (Committed n) = false
is_refusal (Purged n) = false
is_refusal _ = true

abbrev pub is_media : Reply → Bool
is_media Media = true
is_media _ = false

-- a reply of an array that is full or fails, or of how many keys its index gave up, or of a lack of memory
abbrev pub is_of_array : Reply → Bool
is_of_array (LogFull logger held needed) = true
is_of_array (SlotsFull slots) = true
is_of_array (PagesFull pages) = true
is_of_array Media = true
is_of_array (Purged n) = true
is_of_array NoMemory = true
is_of_array _ = false

-- a reply that the state does not tell: of a medium that fails, of how many keys its index gave up, or of a lack of memory
abbrev pub is_by_chance : Reply → Bool
is_by_chance Media = true
is_by_chance (Purged n) = true
is_by_chance NoMemory = true
is_by_chance _ = false

-- a reply that is possible while another caller holds a stripe of the call
abbrev pub may_come_held : Reply → Bool
may_come_held (Busy holder) = true
may_come_held Dead = true
may_come_held NoMemory = true
may_come_held _ = false

abbrev pub is_busy : Reply → Bool
is_busy (Busy holder) = true
is_busy _ = false

abbrev pub is_committed : Reply → Bool
is_committed (Committed n) = true
is_committed _ = false

-- What a call of this caller commits: a commit its own transaction, and a settle all that were offered, or nothing if a group has committed its
-- own already.
abbrev pub committed_by : ℕ → State → ℕ → Call → List Done
committed_by callers old caller (Control Settle) = if is_offered (old.offers caller) then group_in old (group_end old (offerers callers old)) (offerers callers old) else []
committed_by callers old caller call = done_by old caller (calls_of old caller) ∷ []

-- the history after a reply: what was committed comes behind it, and nothing else changes it
abbrev pub history_after : ℕ → State → ℕ → Call → Reply → List Done
history_after callers old caller call reply = if is_committed reply then old.history ++ committed_by callers old caller call else old.history

-- the caller's live transaction after a call that was done
abbrev pub live_with : Granted → Call → Reply → Option Granted
live_with calls Begin reply = Some []
live_with calls (Table call) reply = Some (calls ++ (call, reply) ∷ [])
live_with calls (Control Offer) reply = Some calls
live_with calls (Control ends) reply = None

-- what the caller has then offered
abbrev pub offer_with : Call → state.Offer
offer_with (Control Offer) = offered
offer_with call = unoffered

-- a caller's live transaction stays, and so do its offer and those that it has committed
pub record Stays (old new : State) (caller : ℕ) : Type 0 where
  pub live : new.live caller ≡ old.live caller
  pub offer : new.offers caller ≡ old.offers caller
  pub mine : commits_of caller new.history ≡ commits_of caller old.history

-- The other's transaction, which was offered, has ended in a settle of this caller's: they were committed together, or the medium has failed.
pub record EndsWith (callers : ℕ) (old : State) (caller : ℕ) (call : Call) (reply : Reply) (new : State) (other : ℕ) : Type 0 where
  pub settles : call ≡ Control Settle
  pub own : old.offers caller ≡ offered
  pub its : old.offers other ≡ offered
  pub live : new.live other ≡ None
  pub offer : new.offers other ≡ (if is_media reply then unoffered else unsettled (group_done old (offerers callers old) other).at)
  pub mine : commits_of other new.history ≡ (if is_media reply then commits_of other old.history else commits_of other old.history ++ group_done old (offerers callers old) other ∷ [])

-- What each step does to transactions, over any store, where there are so many callers. A call is done only where its caller's transaction lets
-- it be. A fault of the medium in a commit or a settle may end the caller's transaction, and in a settle all that were offered.
pub record Moves (callers : ℕ) (old : State) (caller : ℕ) (call : Call) (reply : Reply) (new : State) : Type 0 where
  pub names : new.names ≡ old.names
  pub base : new.base ≡ old.base
  pub history : new.history ≡ history_after callers old caller call reply
  pub dead : new.is_dead ≡ (old.is_dead || is_media reply)
  pub able : IsFalse (is_refusal reply) → IsTrue (may_do old caller call)
  pub own : IsFalse (is_refusal reply) → (new.live caller ≡ live_with (calls_of old caller) call reply) × (new.offers caller ≡ offer_with call)
  pub others : (other : ℕ) → other ≢ caller → Stays old new other ⊎ EndsWith callers old caller call reply new other
  pub refused : IsTrue (is_refusal reply) → IsFalse (is_media reply) → (new.live ≡ old.live) × (new.offers ≡ old.offers)
