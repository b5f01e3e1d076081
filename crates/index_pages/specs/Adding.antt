-- The slot and the pages that an insertion takes, and the parts of the action that adds a pair.
use Rattle.std.specs.Prelude.{ℕ, ◌≡◌, ◌+◌, ◌-◌, ◌*◌, ◌/◌, ◌%◌, nat_eq, if◌then◌else◌, List, [], ◌∷◌, Option, Some, None}
use Rattle.array_shape.specs.Logged.{Part}
use Rattle.record_slots.specs.Places.{free_slot_of, free_page_of}
use Rattle.record_slots.specs.Slots.{slot_bytes}
use Rattle.record_slots.specs.Super.{part_bytes}
use Rattle.record_slots.specs.declared.free.Free.{Free}
use Rattle.record_slots.specs.declared.super_page.Super.{Super}
use Rattle.record_slots.specs.declared.slot.Slot.TheVariants.{Absent}
use Rattle.page_store.specs.Pairs.{Pair, inserted}
use Rattle.page_store.specs.Shown.{address}
use Rattle.index_pages.specs.Written.{written_page}

-- The slot, or page, that is taken by this super page: the first free one, or the next if none is free. And what it says of its list, if it
-- is a free one.
abbrev pub slot_for : Super → ℕ
slot_for front = if nat_eq front.free_slots 0 then front.next_slot else front.free_slot - 1

abbrev pub page_for : Super → ℕ
page_for front = if nat_eq front.free_pages 0 then front.next_page else front.free_page - 1

abbrev pub first_slot : List ℕ → Super → Option Free
first_slot bytes front = if nat_eq front.free_slots 0 then None else free_slot_of bytes (front.free_slot - 1)

abbrev pub first_page : List ℕ → Super → Option Free
first_page bytes front = if nat_eq front.free_pages 0 then None else free_page_of bytes (front.free_page - 1)

-- the super page once a slot is taken: the first free one, which says this of its list, or the next one if none is free
abbrev pub with_slot_taken : Option Free → Super → Super
with_slot_taken None front = record front { next_slot = front.next_slot + 1 }
with_slot_taken (Some free) front = record front { free_slot = free.next; free_slots = front.free_slots - 1 }

-- the same of a page
abbrev pub with_page_taken : Option Free → Super → Super
with_page_taken None front = record front { next_page = front.next_page + 1 }
with_page_taken (Some free) front = record front { free_page = free.next; free_pages = front.free_pages - 1 }

-- An action in a page of level 0: a slot, the page with its pairs, and the super page as it is then. A pair is added: the slot is absent under
-- the key of the table, and the page has the pair.
abbrev pub adding_pages : ℕ → ℕ → ℕ → List ℕ
adding_pages half slot page = (half + slot / 8) ∷ page ∷ 0 ∷ []

abbrev pub leaf_parts : ℕ → Super → ℕ → List ℕ → ℕ → ℕ → List Pair → List Part
leaf_parts half after slot said page link pairs = (address (half + slot / 8) (slot % 8 * 64), said) ∷ (address page 0, written_page 0 link pairs) ∷ (address 0 8, part_bytes after) ∷ []

abbrev pub adding_parts : ℕ → Super → ℕ → ℕ → ℕ → List Pair → ℕ → ℕ → List Part
adding_parts half after slot page link pairs table key = leaf_parts half after slot (slot_bytes (Absent table key)) page link (inserted pairs key slot)

-- a slot, or a page, is taken by this super page, over this data: which one, and what the super page says then
pub record TakesSlot (bytes : List ℕ) (front : Super) (slot : ℕ) (after : Super) : Type 0 where
  pub due : slot ≡ slot_for front
  pub after_is : after ≡ with_slot_taken (first_slot bytes front) front

pub record TakesPage (bytes : List ℕ) (front : Super) (page : ℕ) (after : Super) : Type 0 where
  pub due : page ≡ page_for front
  pub after_is : after ≡ with_page_taken (first_page bytes front) front
