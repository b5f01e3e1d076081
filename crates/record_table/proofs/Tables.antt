-- Tables after writes, and the records of pairs.
use Rattle.std.proofs.Common.{◌≡◌, ℕ, Bool, true, false, cond, List, [], ◌∷◌, refl, ◌∙◌}
use Rattle.std.specs.Prelude.{Option, Some, None}
use Rattle.std.specs.FinMap.{get, get-empty}
use Rattle.record_slots.specs.Slots.{slot_said}
use Rattle.record_slots.specs.Places.{slot_of}
use Rattle.record_slots.specs.declared.slot.Slot.{Slot}
use Rattle.record_slots.specs.declared.slot.Slot.TheVariants.{Absent, Present}
use Rattle.history.specs.declared.key.Key.{Key}
use Rattle.history.specs.Key.{key_cmp, is_same_key}
use Rattle.history.proofs.Agreeing.{get-set}
use Rattle.page_store.specs.Records.{value_of}
use Rattle.record_table.specs.Shown.{found_key, write_said, table_in}

-- the record in a slot, if there is a slot
abbrev pub record_at : List ℕ → Option ℕ → Option (List ℕ)
record_at bytes None = None
record_at bytes (Some slot) = value_of (slot_said (slot_of bytes slot))

pub get-table_in : (bytes : List ℕ) (pairs : List (Key × ℕ)) (q : Key) → get (table_in bytes pairs) q ≡ record_at bytes (found_key pairs q)
get-table_in bytes [] q = get-empty key_cmp q
get-table_in bytes (p ∷ ps) q = get-set (table_in bytes ps) p.0 (value_of (slot_said (slot_of bytes p.1))) q ∙ go (is_same_key p.0 q) (get-table_in bytes ps q)
  where
    go : (b : Bool) → get (table_in bytes ps) q ≡ record_at bytes (found_key ps q) → cond b (value_of (slot_said (slot_of bytes p.1))) (get (table_in bytes ps) q) ≡ record_at bytes (cond b (Some p.1) (found_key ps q))
    go true rest = refl
    go false rest = rest

-- the write that a slot stands for writes the slot's value
pub value_is : (bytes : List ℕ) (said : Option Slot) → value_of said ≡ (write_said bytes said).1
value_is bytes None = refl
value_is bytes (Some (Absent t k)) = refl
value_is bytes (Some (Present t k v)) = refl
