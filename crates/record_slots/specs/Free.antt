-- Slots and pages that were given back: each says the one that follows it in their list, and its rank.
use Rattle.std.specs.Prelude.{ℕ, zero, suc, ◌+◌, ◌-◌, nat_eq, if◌then◌else◌, List, ◌∷◌, ◌++◌, replicate, Option, Some, None, slice_index}
use Rattle.std.specs.Option.{option_map, unwrap_or}
use Rattle.byteorder.specs.Endian.{little_from, little_bytes}
use Rattle.record_slots.specs.declared.free.Free.{Free}

-- What is free has its mark in byte 0; from its place on come the next one plus 1 and the rank, of 4 bytes each. The mark of a slot is f0 and
-- its place 2, those of a page are ff and 4.
unfoldable pub free_said : (mark place : ℕ) → List ℕ → Option Free
free_said mark place bytes = if nat_eq (slice_index bytes 0) mark then Some (record { next = little_from place 4 bytes; rank = little_from (4 + place) 4 bytes }) else None

-- the 64 bytes of a free slot, and the 512 of a free page, as they are written: all else in them is zero
unfoldable pub free_slot_bytes : Free → List ℕ
free_slot_bytes free = 0xF0 ∷ 0 ∷ (little_bytes 4 free.next ++ (little_bytes 4 free.rank ++ replicate 54 0))

unfoldable pub free_page_bytes : Free → List ℕ
free_page_bytes free = 0xFF ∷ 0 ∷ 0 ∷ 0 ∷ (little_bytes 4 free.next ++ (little_bytes 4 free.rank ++ replicate 500 0))

-- the one that follows, by its number plus 1; 0 for none
abbrev pub next_of : Option Free → ℕ
next_of said = unwrap_or (option_map (λ free. free.next) said) 0

-- member n of a list, counted from 0, whose first one is named by its number plus 1; it is named so too
abbrev pub member_at : (ℕ → Option Free) → ℕ → ℕ → ℕ
member_at said named zero = named
member_at said named (suc n) = member_at said (next_of (said (named - 1))) n
