-- What loggers hold of callers after a call: no more than they have entries for.
use Rattle.std.proofs.Common.{◌≡◌, ◌≤◌, ◌<◌, ℕ, inl, inr, Bool, true, cond, nat_eq, List, [], ◌∷◌, ◌++◌, length, filter, take, Option, Some, None, unwrap_or, refl, sym, ap, subst, ◌∙◌, arith}
use Rattle.std.specs.Map.{update}
use Rattle.std.proofs.lemmas.Bool.{cases_eq}
use Rattle.history.specs.Key.{of_table}
use Rattle.history.specs.declared.key.Key.{Key}
use Rattle.history.specs.Writes.{Write}
use Rattle.history.specs.Table.{Granted, has_save}
use Rattle.history.specs.Log.{Log, log_of, log_after, save_at}
use Rattle.history.specs.Log as log
use Rattle.history.specs.declared.call.TableCall.{TableCall}
use Rattle.history.specs.declared.call.TableCall.TheVariants.{Put, Del, Back}
use Rattle.history.specs.declared.call.Reply.{Reply}
use Rattle.history.specs.declared.call.Reply.TheVariants.{Fine}
use Rattle.history.proofs.Counting.{length-filter-front}
use Rattle.history.proofs.OneMore.{log_of-push}
use Rattle.history.proofs.Saves.{save_is_front}
use Rattle.record_table.proofs.States.{log_written}
use Rattle.caller_steps.specs.State.{State, Index, calls_of}
use Rattle.caller_steps.specs.Room.{Limits, is_slot_on, held_on}
use Rattle.caller_steps.proofs.Holding.{is_write_on, held_apart, AreNamed, unnamed}
use Rattle.mars_core.specs.Kept.{HasHeld}
use Rattle.mars_core.proofs.Indexing.{Slots}
use Rattle.mars_core.proofs.Mirroring.{calls_here, calls_there}
use Rattle.mars_core.proofs.Rooming.{HasEntry, written_room}

-- the key then has a slot, and a write of it finds an entry
abbrev pub HasSlot : Limits → State → ℕ → Index → Key → Type 0
HasSlot limits s t ix key = (slot : ℕ) × (ix.keys.slot_of key ≡ Some slot) × HasEntry limits s t key slot

-- if the call with this reply writes, it finds an entry
abbrev pub Enters : Limits → State → ℕ → Index → TableCall → Reply → Type 0
Enters limits s t ix (Put name key value) answer = HasSlot limits s t ix (of_table name key)
Enters limits s t ix (Del name key) Fine = HasSlot limits s t ix (of_table name key)
Enters limits s t ix _ answer = Unit {0}

-- a way back goes to a save
abbrev pub Returns : List (List Write) → TableCall → Type 0
Returns saved (Back n) = has_save saved n ≡ true
Returns saved _ = Unit {0}

module _ (limits : Limits) (s : State) (named : (caller : ℕ) → AreNamed s.index (log_of (calls_of s caller)).writes) where
  -- what loggers hold stays the same if the index gains at most a key
  pub held_index : (ix : Index) → Slots limits s.index ix → (caller g : ℕ) → held_on limits (record s { index = ix }) caller g ≡ held_on limits s caller g
  held_index ix (inl same) caller g = ap (λ (f : Key → Option ℕ). length (filter (λ (write : Write). is_slot_on limits g (f write.0)) (log_of (calls_of s caller)).writes)) same
  held_index ix (inr (key, none, gains)) caller g =
      held_apart limits g s (record s { index = ix }) caller key refl gains (unnamed s.index key none (log_of (calls_of s caller)).writes (named caller))

  module _ (room : HasHeld limits s) (ix : Index) (slots : Slots limits s.index ix) where
    pub index_room : HasHeld limits (record s { index = ix })
    index_room caller g = subst (λ (n : ℕ). n ≤ limits.entries) (sym (held_index ix slots caller g)) (room caller g)

    module _ (t : ℕ) (calls : Granted) (is : s.live t ≡ Some calls) where
      at : calls_of s t ≡ calls
      at = ap (λ (o : Option Granted). unwrap_or o []) is

      first : (g : ℕ) → length (filter (is_write_on limits ix g) (log_of calls).writes) ≤ limits.entries
      first g = subst (λ (cs : Granted). length (filter (is_write_on limits ix g) (log_of cs).writes) ≤ limits.entries) at (index_room t g)

      wrote : (write : Write) → HasSlot limits s t ix write.0 → (g : ℕ) → length (filter (is_write_on limits ix g) (log_written (log_of calls) write).writes) ≤ limits.entries
      wrote write (slot, there, entry) g = written_room limits ix write slot there (log_of calls) (λ anew.
          subst (λ (cs : Granted). length (filter (is_write_on limits ix (limits.logger_of slot)) (log_of cs).writes) < limits.entries) at
          (subst (λ (n : ℕ). n < limits.entries) (sym (held_index ix slots t (limits.logger_of slot))) (entry (ap (λ (cs : Granted). log.is_rewritten (log_of cs) write.0) at ∙ anew)))) g (first g)

      -- what they hold of the caller itself after the call
      own_room : (call : TableCall) (answer : Reply) → Enters limits s t ix call answer → Returns (log_of calls).saved call
          → (g : ℕ) → length (filter (is_write_on limits ix g) (log_after (log_of calls) call answer).writes) ≤ limits.entries
      own_room (Put name key value) answer enters returns g = wrote (of_table name key, Some value) enters g
      own_room (Del name key) Fine enters returns g = wrote (of_table name key, None) enters g
      own_room (Back n) answer enters returns g =
          let front = save_is_front calls n returns in
          let fewer = length-filter-front (is_write_on limits ix g) (length (save_at (log_of calls).saved n)) (log_of calls).writes in
          let same : length (filter (is_write_on limits ix g) (take (length (save_at (log_of calls).saved n)) (log_of calls).writes)) ≡ length (filter (is_write_on limits ix g) (save_at (log_of calls).saved n)) =
          ap (λ (ws : List Write). length (filter (is_write_on limits ix g) ws)) front.is in
          subst (λ (b : Bool). length (filter (is_write_on limits ix g) (cond b (record { writes = save_at (log_of calls).saved n; saved = take n (log_of calls).saved }) (log_of calls)).writes) ≤ limits.entries) (sym returns)
          (omega (arith, fewer, same, first g))
      own_room _ answer enters returns g = first g

      pub room_granted : (new : State) (call : TableCall) (answer : Reply) → new.index ≡ ix → new.live ≡ update nat_eq s.live t (Some (calls ++ (call, answer) ∷ []))
          → Enters limits s t ix call answer → Returns (log_of calls).saved call → HasHeld limits new
      room_granted new call answer indexed live enters returns caller g = elim (cases_eq caller t) [
        | inl e ↦ subst (λ (v : ℕ). held_on limits new v g ≤ limits.entries) (sym e)
            (subst (λ (x : Index). length (filter (is_write_on limits x g) (log_of (calls_of new t)).writes) ≤ limits.entries) (sym indexed)
            (subst (λ (cs : Granted). length (filter (is_write_on limits ix g) (log_of cs).writes) ≤ limits.entries) (sym (calls_here s new t (Some (calls ++ (call, answer) ∷ [])) live))
            (subst (λ (l : Log). length (filter (is_write_on limits ix g) l.writes) ≤ limits.entries) (sym (log_of-push calls call answer)) (own_room call answer enters returns g))))
        | inr ne ↦ subst (λ (x : Index). length (filter (is_write_on limits x g) (log_of (calls_of new caller)).writes) ≤ limits.entries) (sym indexed)
            (subst (λ (cs : Granted). length (filter (is_write_on limits ix g) (log_of cs).writes) ≤ limits.entries) (sym (calls_there s new t (Some (calls ++ (call, answer) ∷ [])) live caller ne)) (index_room caller g))
      ]

-- a caller whose transaction begins or ends has nothing in the loggers
pub room_empty : (limits : Limits) (s new : State) (t : ℕ) (calls : Option Granted) → unwrap_or calls [] ≡ [] → HasHeld limits s → new.index.keys.slot_of ≡ s.index.keys.slot_of → new.live ≡ update nat_eq s.live t calls → HasHeld limits new
room_empty limits s new t calls none room indexed live caller g = elim (cases_eq caller t) [
  | inl e ↦ subst (λ (v : ℕ). held_on limits new v g ≤ limits.entries) (sym e)
      (subst (λ (cs : Granted). length (filter (is_write_on limits new.index g) (log_of cs).writes) ≤ limits.entries) (sym (calls_here s new t calls live ∙ none)) (omega arith))
  | inr ne ↦ subst (λ (x : Key → Option ℕ). length (filter (is_write_on limits (record s.index { keys = record s.index.keys { slot_of = x } }) g) (log_of (calls_of new caller)).writes) ≤ limits.entries) (sym indexed)
      (subst (λ (cs : Granted). length (filter (is_write_on limits s.index g) (log_of cs).writes) ≤ limits.entries) (sym (calls_there s new t calls live caller ne)) (room caller g))
]
