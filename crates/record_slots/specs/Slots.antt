-- What the 64 bytes of a slot say, and the bytes with which a slot is written.
use Rattle.std.specs.Prelude.{ℕ, ◌≡◌, ◌+◌, ◌-◌, ◌*◌, ◌/◌, ◌%◌, ◌^◌, ◌<◌, nat_eq, nat_le, ◌&&◌, if◌then◌else◌, List, ◌∷◌, ◌++◌, length, take, drop, replicate, slice_index, Option, Some, None}
use Rattle.std.specs.List.{list_all}
use Rattle.std.specs.Option.{option_map}
use Rattle.byteorder.specs.Endian.{little_from, little_bytes}
use Rattle.record_slots.specs.Text.{is_visible, IsValue}
use Rattle.record_slots.specs.declared.slot.Slot.{Slot}
use Rattle.record_slots.specs.declared.slot.Slot.TheVariants.{Absent, Present}

-- the text from byte 10 on, as long as byte 1 says
abbrev pub text_said : List ℕ → List ℕ
text_said bytes = take (slice_index bytes 1) (drop 10 bytes)

-- the value, if byte 1 is the length of one, and that many visible bytes stand from byte 10 on
unfoldable pub value_said : List ℕ → Option (List ℕ)
value_said bytes =
    if nat_le 1 (slice_index bytes 1) && (nat_le (slice_index bytes 1) 54 && list_all is_visible (text_said bytes)) then Some (text_said bytes) else None

-- The state in byte 0 is that of table j: 2 * j is absent, 2 * j + 1 is present if the bytes say a value. The key is in bytes 2 to 9. There
-- are eight tables; all else says no slot.
unfoldable pub slot_said : List ℕ → Option Slot
slot_said bytes =
    if nat_le 16 (slice_index bytes 0) then None
    else if nat_eq (slice_index bytes 0 % 2) 0 then Some (Absent (slice_index bytes 0 / 2) (little_from 2 8 bytes))
    else option_map (Present (slice_index bytes 0 / 2) (little_from 2 8 bytes)) (value_said bytes)

-- the state
abbrev pub state_said : List ℕ → ℕ
state_said bytes = slice_index bytes 0

-- state, length, key, value, zeros
unfoldable pub slot_bytes : Slot → List ℕ
slot_bytes (Absent table key) = (2 * table) ∷ 0 ∷ (little_bytes 8 key ++ replicate 54 0)
slot_bytes (Present table key value) = (2 * table + 1) ∷ length value ∷ (little_bytes 8 key ++ (value ++ replicate (54 - length value) 0))

-- one of eight tables, a key of 64 bits, and a value
abbrev pub IsSlot : Slot → Type 0
IsSlot (Absent table key) = (table < 8) × (key < 2 ^ 64)
IsSlot (Present table key value) = (table < 8) × (key < 2 ^ 64) × IsValue value

-- 64 bytes, of which those that say nothing of the slot are zero
pub record IsPlain (bytes : List ℕ) : Type 0 where
  pub size : length bytes ≡ 64
  pub fits : (i : ℕ) → slice_index bytes i < 256
  pub absent : state_said bytes % 2 ≡ 0 → slice_index bytes 1 ≡ 0
  pub padded : drop (10 + slice_index bytes 1) bytes ≡ replicate (54 - slice_index bytes 1) 0

-- the table of a slot
abbrev pub table_of_slot : Slot → ℕ
table_of_slot (Absent table key) = table
table_of_slot (Present table key value) = table
