-- What a full array answers, and why.
use Rattle.std.proofs.Common.{◌≡◌, ◌≢◌, ◌-◌, ℕ, inl, inr, Bool, true, false, List, [], ◌∷◌, Option, Some, None, refl, sym, ap}
use Rattle.std.specs.Prelude.{is_none, option_to_list}
use Rattle.std.specs.FinMap.{get}
use Rattle.std.proofs.lemmas.Bool.{cases_eq}
use Rattle.mars_base.specs.Check.{test, unless, each}
use Rattle.history.specs.Key.{of_table}
use Rattle.history.specs.Log.{log_of, is_rewritten}
use Rattle.history.specs.declared.key.Key.{Key}
use Rattle.history.specs.declared.call.TableCall.{TableCall}
use Rattle.history.specs.declared.call.TableCall.TheVariants.{Put, Del}
use Rattle.history.specs.declared.call.Reply.{Reply}
use Rattle.history.specs.declared.call.Reply.TheVariants.{SlotsFull, PagesFull, LogFull}
use Rattle.caller_steps.specs.State.{State, Index, calls_of, view_of}
use Rattle.caller_steps.specs.Room.{Action, Limits, held_on, actions_fit, entry_fits, write_fits, room_for}
use Rattle.caller_steps.specs.Fate.{is_refusal, is_media, is_of_array}

-- a write of a key with this slot, or none, is refused for the lack of a slot, of pages, or of entries
pub data Lacking (limits : Limits) (index : Index) (slot : Option ℕ) (reply : Reply) : Type 0 where
  no_slot : slot ≡ None → index.keys.used_slots ≡ limits.slots → reply ≡ SlotsFull limits.slots → Lacking limits index slot reply
  no_page : slot ≡ None → reply ≡ PagesFull (limits.index_pages - 1) → Lacking limits index slot reply
  no_entry : (g h n : ℕ) → reply ≡ LogFull g h n → Lacking limits index slot reply

abbrev IsLogFull : Reply → Type 0
IsLogFull reply = (g : ℕ) × (h : ℕ) × (n : ℕ) × (reply ≡ LogFull g h n)

entry_told : (out : Bool) (Holds : Type 0) (g h : ℕ) (reply : Reply) → unless out (test Holds (LogFull g h 1)) (Some reply) → IsLogFull reply
entry_told true Holds g h reply full = absurd full
entry_told false Holds g h reply full = (g, h, 1, full.1)

module _ (limits : Limits) (index : Index) (held : ℕ → ℕ) where
  actions_lack : (left : ℕ) (actions : List Action) (reply : Reply) → actions_fit limits held left actions (Some reply) → Lacking limits index None reply
  actions_lack left [] reply lacks = absurd lacks
  actions_lack left (action ∷ later) reply (inl few) = no_page refl few.1
  actions_lack left (action ∷ later) reply (inr (some, inl (g, logger, full, before, is))) = no_entry g (held g) (action.needs g) is
  actions_lack left (action ∷ later) reply (inr (some, inr (fits, lacks))) = actions_lack (left - action.takes) later reply lacks

module _ (limits : Limits) (old : State) (caller : ℕ) where
  entry_lacks : (key : Key) (slot : ℕ) (reply : Reply) → entry_fits limits old caller key slot (Some reply) → IsLogFull reply
  entry_lacks key slot reply full = entry_told (is_rewritten (log_of (calls_of old caller)) key) _ _ _ reply full

  pub write_lacks : (key : Key) (slot : Option ℕ) (reply : Reply) → write_fits limits old caller key slot (Some reply) → Lacking limits old.index slot reply
  write_lacks key None reply (inl full) = elim (cases_eq old.index.keys.used_slots limits.slots) [
    | inl is ↦ no_slot refl is full.1
    | inr ne ↦ absurd (full.0 ne)
  ]
  write_lacks key None reply (inr (left, inl lacks)) = actions_lack limits old.index (held_on limits old caller) _ (limits.actions old.index.bytes key) reply lacks
  write_lacks key None reply (inr (left, inr (fit, full))) = let is = entry_lacks key old.index.keys.due reply full in no_entry is.0 is.1 is.2 is.3
  write_lacks key (Some slot) reply full = let is = entry_lacks key slot reply full in no_entry is.0 is.1 is.2 is.3

  slot_lacks : (key : Key) (slot : Option ℕ) (reply : Reply) → each (entry_fits limits old caller key) (option_to_list slot) (Some reply) → IsLogFull reply
  slot_lacks key None reply full = absurd full
  slot_lacks key (Some slot) reply (inl full) = entry_lacks key slot reply full
  slot_lacks key (Some slot) reply (inr (fits, none)) = absurd none

  pub removal_lacks : (key : Key) (unseen : Bool) (reply : Reply) → unless unseen (each (entry_fits limits old caller key) (option_to_list (old.index.keys.slot_of key))) (Some reply) → IsLogFull reply
  removal_lacks key true reply full = absurd full
  removal_lacks key false reply full = slot_lacks key (old.index.keys.slot_of key) reply full

  pub room_lacks : (call : TableCall) (reply : Reply) → room_for limits old caller call (Some reply) → (slot : Option ℕ) × Lacking limits old.index slot reply
  room_lacks (Put name key value) reply lacks = (old.index.keys.slot_of (of_table name key), write_lacks (of_table name key) (old.index.keys.slot_of (of_table name key)) reply lacks)
  room_lacks (Del name key) reply lacks =
      let is = removal_lacks (of_table name key) (is_none (get (view_of old caller).table (of_table name key))) reply lacks in
      (None, no_entry is.0 is.1 is.2 is.3)
  room_lacks _ reply lacks = absurd lacks

-- a refusal for lack of room is a reply of the array, and no fault of the medium
pub lacking_of_array : (limits : Limits) (index : Index) (slot : Option ℕ) (reply : Reply) → Lacking limits index slot reply → (is_of_array reply ≡ true) × (is_refusal reply ≡ true) × (is_media reply ≡ false)
lacking_of_array limits index slot reply (no_slot none full e) = (ap is_of_array e, ap is_refusal e, ap is_media e)
lacking_of_array limits index slot reply (no_page none e) = (ap is_of_array e, ap is_refusal e, ap is_media e)
lacking_of_array limits index slot reply (no_entry g h n e) = (ap is_of_array e, ap is_refusal e, ap is_media e)
