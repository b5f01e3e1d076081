-- How much room an array has for writes, and what calls make of its index.
use Rattle.std.specs.Prelude.{ℕ, suc, ◌≡◌, ◌≢◌, ◌+◌, ◌-◌, ◌<◌, ◌≤◌, ◌⊎◌, Bool, false, nat_eq, List, [], ◌∷◌, length, filter, Option, Some, None, is_none, option_map, option_to_list, unwrap_or}
use Rattle.std.specs.FinMap.{get}
use Rattle.std.specs.Map.{update}
use Rattle.mars_base.specs.Check.{Check, pass, test, both, unless, each}
use Rattle.mars_base.specs.Room.{room}
use Rattle.history.specs.Key.{is_same_key, of_table}
use Rattle.history.specs.declared.key.Key.{Key}
use Rattle.history.specs.Log.{log_of, is_rewritten}
use Rattle.history.specs.Writes.{Table, Write}
use Rattle.history.specs.declared.call.TableCall.{TableCall}
use Rattle.history.specs.declared.call.TableCall.TheVariants.{Put, Del}
use Rattle.history.specs.declared.call.Reply.{Reply}
use Rattle.history.specs.declared.call.Reply.TheVariants.{Fine, LogFull, SlotsFull, PagesFull}
use Rattle.index_keys.specs.Keys.{KeepsKeys}
use Rattle.caller_steps.specs.State.{State, Index, calls_of, records_of, view_of}

-- an action of an insertion into the index: how many of its pages it takes, and how many entries of each logger
pub record Action : Type 0 where
  pub takes : ℕ
  pub needs : ℕ → ℕ

-- how many callers there may be, the slots of an array, its pages for the index, its loggers, the entries that each of them has for a
-- caller, how many commits may wait for their write-back, and the logger of each slot; of data and a key, whether the index keeps the key's pair as the last of a page, so that no purge
-- takes it out, and, if the index lacks the key, the actions of its insertion, one after another; and what data says: the names of the tables, their records, and their index. The
-- slot that is due is the first one in the data's list of free slots, or the next one where none is free.
pub record Limits : Type 0 where
  pub callers : ℕ
  pub slots : ℕ
  pub index_pages : ℕ
  pub loggers : ℕ
  pub entries : ℕ
  pub depth : ℕ
  pub logger_of : ℕ → ℕ
  pub keeps : List ℕ → Key → Bool
  pub actions : List ℕ → Key → List Action
  pub says : List ℕ → List (List ℕ) × Table × Index

-- the data of a state says its names, its records and its index
abbrev pub IsShown : Limits → State → Type 0
IsShown limits state = limits.says state.index.bytes ≡ (state.names, records_of state, state.index)

-- the key of a write has its slot on this logger
abbrev pub is_slot_on : Limits → ℕ → Option ℕ → Bool
is_slot_on limits g slot = unwrap_or (option_map (λ (at : ℕ). nat_eq (limits.logger_of at) g) slot) false

-- how many entries of a logger a caller's writes take
abbrev pub held_on : Limits → State → ℕ → ℕ → ℕ
held_on limits state caller g = length (filter (λ (write : Write). is_slot_on limits g (state.index.keys.slot_of write.0)) (log_of (calls_of state caller)).writes)

-- All actions fit, one after another: `left` pages are enough for what one takes, and then each logger has room for its entries.
abbrev pub actions_fit : Limits → (ℕ → ℕ) → ℕ → List Action → Check Reply
actions_fit limits held left [] = pass
actions_fit limits held left (action ∷ later) = both (test (action.takes ≤ left) (PagesFull (limits.index_pages - 1)))
    (both (room LogFull limits.loggers limits.entries held action.needs) (actions_fit limits held (left - action.takes) later))

-- a write of a key with this slot reuses the entry of a write since the last save, or finds a free entry at the slot's logger
abbrev pub entry_fits : Limits → State → ℕ → Key → ℕ → Check Reply
entry_fits limits old caller key slot = unless (is_rewritten (log_of (calls_of old caller)) key)
    (test (held_on limits old caller (limits.logger_of slot) < limits.entries) (LogFull (limits.logger_of slot) (held_on limits old caller (limits.logger_of slot)) 1))

-- A write of a key that has this slot, or none. A new key needs a slot, pages for the splits of the index that are due, entries for each part of its
-- insertion, and then one in the slot that is due.
abbrev pub write_fits : Limits → State → ℕ → Key → Option ℕ → Check Reply
write_fits limits old caller key None = both (test (old.index.keys.used_slots ≢ limits.slots) (SlotsFull limits.slots))
    (both (actions_fit limits (held_on limits old caller) (limits.index_pages - old.index.keys.used_pages) (limits.actions old.index.bytes key)) (entry_fits limits old caller key old.index.keys.due))
write_fits limits old caller key (Some slot) = entry_fits limits old caller key slot

-- What a call that writes needs, and why it is refused: the first that it lacks. To remove a record is a write if its caller sees one, and it has a slot then.
abbrev pub room_for : Limits → State → ℕ → TableCall → Check Reply
room_for limits old caller (Put name key value) = write_fits limits old caller (of_table name key) (old.index.keys.slot_of (of_table name key))
room_for limits old caller (Del name key) = unless (is_none (get (view_of old caller).table (of_table name key)))
    (each (entry_fits limits old caller (of_table name key)) (option_to_list (old.index.keys.slot_of (of_table name key))))
room_for limits old caller _ = pass

-- the index gains the key, with the slot that was due; a slot was left for it, and no key had this one
pub record GainsWithin (limits : Limits) (key : Key) (old new : Index) : Type 0 where
  pub left : old.keys.used_slots < limits.slots
  pub free : (other : Key) → old.keys.slot_of other ≢ Some old.keys.due
  pub slot_of : new.keys.slot_of ≡ update is_same_key old.keys.slot_of key (Some old.keys.due)
  pub slots : new.keys.used_slots ≡ suc old.keys.used_slots

-- The data takes these writes, in slots that their keys have. Without a write all of it stays.
pub record Settles (writes : List Write) (old new : Index) : Type 0 where
  pub keys : new ≡ record old { bytes = new.bytes }
  pub none : writes ≡ [] → new ≡ old

-- At most nine more pages are given out, and no more than the index may have. No page in use is given back, and no level is lost.
pub record TakesWithin (limits : Limits) (old new : Index) : Type 0 where
  pub later : old.keys.next_page ≤ new.keys.next_page
  pub few : new.keys.next_page ≤ old.keys.next_page + 9
  pub most : new.keys.next_page ≤ limits.index_pages
  pub used : old.keys.used_pages ≤ new.keys.used_pages
  pub levels : (name : List ℕ) → old.keys.levels name ≤ new.keys.levels name

-- What a put makes of the index, where it has this slot for the key, or lacks the key. If the log is full after the insertion, the key stays. If
-- pages ran out, at most one is left, or the index has as many levels as it may.
abbrev pub IndexesAt : Limits → Key → Option ℕ → Reply → Index → Index → Type 0
IndexesAt limits key (Some slot) reply old new = new ≡ old
IndexesAt limits key None Fine old new = TakesWithin limits old new × GainsWithin limits key old new
IndexesAt limits key None (LogFull g h n) old new = TakesWithin limits old new × (KeepsKeys old.keys new.keys ⊎ GainsWithin limits key old new)
IndexesAt limits key None (PagesFull n) old new = TakesWithin limits old new × KeepsKeys old.keys new.keys × ((n ≤ new.keys.used_pages) ⊎ (7 ≤ new.keys.levels key.table))
IndexesAt limits key None _ old new = TakesWithin limits old new × KeepsKeys old.keys new.keys

-- what a call makes of the index
abbrev pub Indexes : Limits → TableCall → Reply → Index → Index → Type 0
Indexes limits (Put name key value) reply old new = IndexesAt limits (of_table name key) (old.keys.slot_of (of_table name key)) reply old new
Indexes limits _ reply old new = new ≡ old
