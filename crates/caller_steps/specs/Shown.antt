-- What a refusal within a run shows, and which keys an index gains and loses in one.
use Rattle.std.specs.Prelude.{ℕ, suc, ◌≡◌, ◌≢◌, ◌-◌, ◌≤◌, ◌⊎◌, Bool, false, IsTrue, IsFalse, List, [], ◌∷◌, Some, None, IsSome, unwrap_or}
use Rattle.std.specs.List.{list_any}
use Rattle.std.specs.Map.{update}
use Rattle.history.specs.Key.{is_same_key, of_table}
use Rattle.history.specs.declared.key.Key.{Key}
use Rattle.history.specs.Table.{Granted}
use Rattle.history.specs.Locks.{Meets}
use Rattle.history.specs.declared.call.Call.{Call}
use Rattle.history.specs.declared.call.Call.TheVariants.{Table}
use Rattle.history.specs.declared.call.TableCall.TheVariants.{Put}
use Rattle.history.specs.declared.call.Reply.{Reply}
use Rattle.history.specs.declared.call.Reply.TheVariants.{Busy, SlotsFull, PagesFull, Media, Dead}
use Rattle.caller_steps.specs.State.{State, Index}
use Rattle.caller_steps.specs.Room.{Limits}
use Rattle.caller_steps.specs.Run.{Turn, Heard, turns_of, has_fault, has_purge}
use Rattle.caller_steps.specs.Own.{live_by}

-- the call puts a value for this key
abbrev pub is_put : Key → Call → Bool
is_put key (Table (Put name other value)) = is_same_key (of_table name other) key
is_put key _ = false

-- a turn asks to put a value for this key
abbrev pub is_asked : List Turn → Key → Bool
is_asked turns key = list_any (λ (turn : Turn). is_put key turn.1) turns

-- a caller has asked to put a value for this key
abbrev pub asks_put : Key → Heard → Bool
asks_put key told = list_any (λ (entry : Call × Reply). is_put key entry.0) told

abbrev pub AreAsked : List Turn → List Key → Type 0
AreAsked turns [] = Unit {0}
AreAsked turns (key ∷ keys) = IsTrue (is_asked turns key) × AreAsked turns keys

-- a key that an index has gained, or one that it has lost
pub data Change : Type 0 where
  gain : (key : Key) → Change
  loss : (key : Key) → Change

abbrev pub gained_in : List Change → List Key
gained_in [] = []
gained_in (gain key ∷ changes) = key ∷ gained_in changes
gained_in (loss key ∷ changes) = gained_in changes

abbrev pub lost_in : List Change → List Key
lost_in [] = []
lost_in (gain key ∷ changes) = lost_in changes
lost_in (loss key ∷ changes) = key ∷ lost_in changes

-- An index has changed so, the last change first: a key that it gained was new and got the slot that was due, and a key that it lost was there,
-- and its slot is due then.
abbrev pub Changed : Index → List Change → Index → Type 0
Changed first [] now = (now.keys.slot_of ≡ first.keys.slot_of) × (now.keys.used_slots ≡ first.keys.used_slots)
Changed first (gain key ∷ changes) now = (before : Index) × Changed first changes before × (before.keys.slot_of key ≡ None) × (now.keys.slot_of ≡ update is_same_key before.keys.slot_of key (Some before.keys.due)) × (now.keys.used_slots ≡ suc before.keys.used_slots)
Changed first (loss key ∷ changes) now = (before : Index) × Changed first changes before × IsSome (before.keys.slot_of key) × (now.keys.slot_of ≡ update is_same_key before.keys.slot_of key None) × (before.keys.used_slots ≡ suc now.keys.used_slots)

-- a put finds no page for a split, or no further level
abbrev pub LacksPages : Call → ℕ → Index → Type 0
LacksPages (Table (Put name key value)) n index = (n ≤ index.keys.used_pages) ⊎ (7 ≤ index.keys.levels name)
LacksPages _ n index = Unit {0}

-- the call clashes with these granted calls of another caller
abbrev pub Clashes : List (List ℕ) → Call → Granted → Type 0
Clashes names (Table call) calls = Meets names call calls
Clashes names call calls = ⊥

-- What a refusal of a call shows, given the turns before it, and those after it up to any later state. The holder of a stripe is another
-- caller, and its own turns say that the call clashes with its live transaction. Slots and pages had run out, and unless the medium has failed
-- or a purge has come, they still have. After a fault the core is dead, and `Dead` comes only after a fault.
abbrev pub Shows : Limits → List Turn → List Turn → State → ℕ → Call → Reply → Type 0
Shows limits before after now caller call (Busy holder) = (holder ≢ caller) × Clashes now.names call (unwrap_or (live_by holder (turns_of holder before)) [])
Shows limits before after now caller call (SlotsFull n) = (n ≡ limits.slots) × (IsFalse now.is_dead → IsFalse (has_purge after) → now.index.keys.used_slots ≡ limits.slots)
Shows limits before after now caller call (PagesFull n) = (n ≡ limits.index_pages - 1) × (IsFalse now.is_dead → IsFalse (has_purge after) → LacksPages call n now.index)
Shows limits before after now caller call Media = IsTrue now.is_dead
Shows limits before after now caller call Dead = IsTrue (has_fault before)
Shows limits before after now caller call _ = Unit {0}
