-- Why a call is answered so, over any store: no clause here asks what the store tells.
use Rattle.std.specs.Prelude.{ℕ, ◌≡◌, ◌+◌, ◌-◌, ◌<◌, ◌≤◌, ◌⊎◌, ◌&&◌, Bool, true, false, nat_lt, nat_le, if◌then◌else◌, IsTrue, List, length, Option, Some, None}
use Rattle.history.specs.Locks.{has_table}
use Rattle.history.specs.declared.call.Call.{Call}
use Rattle.history.specs.declared.call.Call.TheVariants.{Begin, Table, Control}
use Rattle.history.specs.declared.call.TableCall.{TableCall}
use Rattle.history.specs.declared.call.TableCall.TheVariants.{Get, Put, Del, Scan, Save, Back}
use Rattle.history.specs.declared.call.Control.TheVariants.{Commit, Abort, Offer, Settle, Purge}
use Rattle.history.specs.declared.call.Reply.{Reply}
use Rattle.history.specs.declared.call.Reply.TheVariants.{Fine, Found, Absent, Listed, Saved, Committed, Purged, NoTransaction, NoTable, Already, NoSave, SavesFull, Busy, LogFull, SlotsFull, PagesFull, Media, Dead, NoMemory, Damaged}
use Rattle.caller_steps.specs.State as state
use Rattle.caller_steps.specs.State.{State, unoffered, offered, unsettled, view_of}
use Rattle.caller_steps.specs.Offers.{may_do, offerers, number_among}
use Rattle.caller_steps.specs.Locked.{IsFree, IsBusyWith}
use Rattle.caller_steps.specs.Room.{Limits}
use Rattle.caller_steps.specs.Step.{uses_index}

-- how many saves a caller's live transaction has
abbrev pub saves_of : State → ℕ → ℕ
saves_of old caller = length (view_of old caller).saves

-- the refusal of a call that its caller's transaction, or the lack of one, does not let be
abbrev pub misplaced : Call → Reply
misplaced Begin = Already
misplaced (Control Purge) = Already
misplaced call = NoTransaction

-- the refusal of one more save than there may be, or of a way back to a save that is not there
abbrev pub save_refusal : ℕ → TableCall → Option Reply
save_refusal saves Save = if nat_lt saves 32 then None else Some SavesFull
save_refusal saves (Back n) = if nat_lt 0 n && nat_le n saves then None else Some (NoSave n)
save_refusal saves call = None

abbrev pub table_refusal : List (List ℕ) → TableCall → Option Reply
table_refusal names call = if has_table names call then None else Some NoTable

-- the first of two refusals
abbrev pub or_else : Option Reply → Option Reply → Option Reply
or_else None second = second
or_else (Some first) second = Some first

-- the refusal of a call on a table or on saves, by these: a save's first
abbrev pub asked_refusal : State → ℕ → Call → Option Reply
asked_refusal old caller (Table call) = or_else (save_refusal (saves_of old caller) call) (table_refusal old.names call)
asked_refusal old caller call = None

-- the replies by which a state refuses
abbrev pub is_of_state : Reply → Bool
is_of_state Dead = true
is_of_state Already = true
is_of_state NoTransaction = true
is_of_state (NoSave n) = true
is_of_state SavesFull = true
is_of_state NoTable = true
is_of_state _ = false

-- What the state alone refuses, in this order: all once the medium has failed; what the caller's transaction does not let be; a save; a table that
-- is not there.
abbrev pub refusal_in : State → ℕ → Call → Option Reply
refusal_in old caller call =
    if old.is_dead then Some Dead
    else (if may_do old caller call then asked_refusal old caller call else Some (misplaced call))

-- A reply of the kind that the call asks for. Which value or which rows it tells is the store's to say.
abbrev pub IsOfKind : ℕ → TableCall → Reply → Type 0
IsOfKind saves (Get name key) (Found value) = Unit {0}
IsOfKind saves (Get name key) Absent = Unit {0}
IsOfKind saves (Put name key value) Fine = Unit {0}
IsOfKind saves (Del name key) Fine = Unit {0}
IsOfKind saves (Del name key) Absent = Unit {0}
IsOfKind saves (Scan name low high) (Listed rows) = Unit {0}
IsOfKind saves Save (Saved n) = n ≡ saves + 1
IsOfKind saves (Back n) Fine = Unit {0}
IsOfKind saves call reply = ⊥

-- a logger of the array lacks room for what a write needs, at most four entries
abbrev pub IsShort : Limits → ℕ → ℕ → ℕ → Type 0
IsShort limits g h n = (g < limits.loggers) × (n ≤ 4) × (limits.entries < h + n)

-- what a call may meet below: a fault of the medium, a page that breaks the layout, or a full array
abbrev pub MayMeet : Limits → TableCall → Reply → Type 0
MayMeet limits call Media = IsTrue (uses_index call)
MayMeet limits call (Damaged page) = IsTrue (uses_index call)
MayMeet limits (Put name key value) (SlotsFull n) = n ≡ limits.slots
MayMeet limits (Put name key value) (PagesFull n) = n ≡ limits.index_pages - 1
MayMeet limits (Put name key value) (LogFull g h n) = IsShort limits g h n
MayMeet limits (Del name key) (LogFull g h n) = IsShort limits g h n
MayMeet limits call reply = ⊥

-- A call on a table or on saves. The lowest caller that stands in its way is named; nothing else but a lack of memory is told unless nobody does.
abbrev pub TableCause : Limits → State → ℕ → TableCall → Reply → Type 0
TableCause limits old caller call NoMemory = Unit {0}
TableCause limits old caller call (Busy holder) = IsBusyWith old caller call holder
TableCause limits old caller call reply = IsFree old caller call × (IsOfKind (saves_of old caller) call reply ⊎ MayMeet limits call reply)

-- the commit of a transaction that gets this number: it is told, or there is no memory for it, or the medium fails
abbrev pub CommitCause : ℕ → Reply → Type 0
CommitCause number (Committed n) = n ≡ number
CommitCause number NoMemory = Unit {0}
CommitCause number Media = Unit {0}
CommitCause number reply = ⊥

abbrev pub SettleCause : Limits → state.Offer → State → ℕ → Reply → Type 0
SettleCause limits unoffered old caller reply = ⊥
SettleCause limits offered old caller reply = CommitCause (number_among (length old.history + 1) (offerers limits.callers old) caller) reply
SettleCause limits (unsettled n) old caller reply = reply ≡ Committed n

abbrev pub ClearCause : Reply → Type 0
ClearCause (Purged n) = Unit {0}
ClearCause Media = Unit {0}
ClearCause (Damaged page) = Unit {0}
ClearCause reply = ⊥

-- why a call that the state does not refuse is answered so
abbrev pub CallCause : Limits → State → ℕ → Call → Reply → Type 0
CallCause limits old caller Begin reply = reply ≡ Fine
CallCause limits old caller (Table call) reply = TableCause limits old caller call reply
CallCause limits old caller (Control Abort) reply = reply ≡ Fine
CallCause limits old caller (Control Offer) reply = reply ≡ Fine
CallCause limits old caller (Control Commit) reply = CommitCause (length old.history + 1) reply
CallCause limits old caller (Control Settle) reply = SettleCause limits (old.offers caller) old caller reply
CallCause limits old caller (Control Purge) reply = ClearCause reply

abbrev pub CauseAfter : Option Reply → Limits → State → ℕ → Call → Reply → Type 0
CauseAfter (Some refusal) limits old caller call reply = reply ≡ refusal
CauseAfter None limits old caller call reply = CallCause limits old caller call reply

-- Why a call is answered so. What the state refuses is refused with that reply, and only then.
abbrev pub ReplyCause : Limits → State → ℕ → Call → Reply → Type 0
ReplyCause limits old caller call reply = CauseAfter (refusal_in old caller call) limits old caller call reply
