-- A slot and a page that are given back, and the parts of the action that takes a pair out.
use Rattle.std.specs.Prelude.{ℕ, ◌≡◌, ◌+◌, ◌/◌, ◌<◌, List, [], ◌∷◌}
use Rattle.array_shape.specs.Logged.{Part}
use Rattle.record_slots.specs.Free.{free_slot_bytes}
use Rattle.record_slots.specs.declared.free.Free.{Free}
use Rattle.record_slots.specs.declared.super_page.Super.{Super}
use Rattle.page_store.specs.Pairs.{Pair, removed}
use Rattle.index_pages.specs.Adding.{leaf_parts}

-- what a slot, or a page, says that is given back to this super page: the one that was the first follows it, and it ranks above them all
abbrev pub slot_freed : Super → Free
slot_freed front = record { next = front.free_slot; rank = front.free_slots + 1 }

abbrev pub page_freed : Super → Free
page_freed front = record { next = front.free_page; rank = front.free_pages + 1 }

-- the super page then: it is the first of its list
abbrev pub with_slot_given : ℕ → Super → Super
with_slot_given slot front = record front { free_slot = slot + 1; free_slots = front.free_slots + 1 }

abbrev pub with_page_given : ℕ → Super → Super
with_page_given page front = record front { free_page = page + 1; free_pages = front.free_pages + 1 }

-- a number of which so many were given out can be given back to a super page of this version: there are lists, and not all are free
pub record MayGive (version number next free : ℕ) : Type 0 where
  pub lists : version ≡ 2
  pub given : number < next
  pub some : free < next

-- a slot, or a page, is given back to this super page: what it is to say, and what the super page says then
pub record GivesSlot (front : Super) (slot : ℕ) (free : Free) (after : Super) : Type 0 where
  pub may : MayGive front.version slot front.next_slot front.free_slots
  pub free_is : free ≡ slot_freed front
  pub after_is : after ≡ with_slot_given slot front

pub record GivesPage (front : Super) (page : ℕ) (free : Free) (after : Super) : Type 0 where
  pub may : MayGive front.version page front.next_page front.free_pages
  pub free_is : free ≡ page_freed front
  pub after_is : after ≡ with_page_given page front

-- a pair is taken out of a page of level 0: the slot is free, and the page lacks the pair
abbrev pub removing_pages : ℕ → ℕ → ℕ → List ℕ
removing_pages half slot page = (half + slot / 8) ∷ page ∷ 0 ∷ []

abbrev pub removing_parts : ℕ → Super → ℕ → Free → ℕ → ℕ → List Pair → ℕ → List Part
removing_parts half after slot free page link pairs key = leaf_parts half after slot (free_slot_bytes free) page link (removed pairs key)
