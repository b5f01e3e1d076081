-- What an insertion needs of the super page that it has read: that a slot or a page is left, and that the lists of what is free are sound.
use Rattle.std.proofs.Common.{◌≡◌, ℕ, ◌+◌, ◌*◌, ◌/◌, ◌<◌, ◌≤◌, inl, inr, List, [], ◌∷◌, length, take, drop, None, sym, ◌∙◌, ap, subst, arith}
use Rattle.std.proofs.lemmas.Bool.{cases_lt}
use Rattle.std.proofs.lemmas.List.{length-take-le, length-drop}
use Rattle.array_shape.specs.declared.shape.Shape.{Shape}
use Rattle.array_shape.specs.Places.{data_len, page_count}
use Rattle.record_slots.specs.Places.{page_bytes, next_slot, slot_page, used_slots, used_pages, free_slots, free_pages, free_slot, free_slot_of, free_page_of, slot_due}
use Rattle.record_slots.specs.Super.{SaysSuper, entries_said}
use Rattle.record_slots.specs.declared.super_page.Super.{Super}
use Rattle.page_store.specs.Index.{HasCounts, slots_of, index_pages_of}
use Rattle.index_pages.specs.Adding.{TakesPage, adding_pages}
use Rattle.index_pages.specs.Fetched.{IsFront}
use Rattle.index_pages.specs.Slots.{list_check}
use Rattle.index_pages.proofs.Sizes.{slot_page_is}
use Rattle.index_pages.proofs.Stacks.{list_passes}
use Rattle.index_pages.proofs.Taken.{FreeSlots, FreePages, HasTaken, taken_none, taken_one, list_left}

-- there are eight entries of tables
pub entries_long : (bytes : List ℕ) (front : Super) → 512 ≤ length bytes → SaysSuper (page_bytes bytes 0) front → length front.entries ≡ 256
unfolding entries_said page_bytes
entries_long bytes front long says =
    let page : length (take 512 (drop (512 * 0) bytes)) ≡ 512 = length-take-le 512 (drop (512 * 0) bytes) (omega (arith, length-drop (512 * 0) bytes, long)) in
    ap (λ (es : List ℕ). length es) says.entries ∙ length-take-le 256 (drop 16 (take 512 (drop (512 * 0) bytes))) (omega (arith, length-drop 16 (take 512 (drop (512 * 0) bytes)), page))

-- a slot, or a page, is left
pub slots_few : (shape : Shape) (bytes : List ℕ) (front : Super) → IsFront shape front → (front.free_slots ≡ 0 → front.next_slot < slots_of shape) → SaysSuper (page_bytes bytes 0) front → HasCounts bytes → used_slots bytes < slots_of shape
slots_few shape bytes front is left says counts = elim (cases_lt 0 (free_slots bytes)) [
  | inl some ↦ omega (arith, some, counts.free_slots_few, is.slots, says.next_slot)
  | inr none ↦ omega (arith, left (omega (arith, none, says.free_slots)), says.next_slot)
]

pub pages_few : (shape : Shape) (bytes : List ℕ) (front : Super) → IsFront shape front → (front.free_pages ≡ 0 → front.next_page < index_pages_of shape) → SaysSuper (page_bytes bytes 0) front → HasCounts bytes → used_pages bytes < index_pages_of shape
pages_few shape bytes front is left says counts = elim (cases_lt 0 (free_pages bytes)) [
  | inl some ↦ omega (arith, some, counts.free_pages_few, is.pages, says.next_page)
  | inr none ↦ omega (arith, left (omega (arith, none, says.free_pages)), says.next_page)
]

-- the lists of what is free, as the super page says them
pub free_pages_pass : (bytes : List ℕ) (front : Super) → FreePages bytes → SaysSuper (page_bytes bytes 0) front → list_check (free_page_of bytes) (λ page. page) 2 front.next_page front.free_pages front.free_page 0 None
free_pages_pass bytes front list says =
    list_passes (free_page_of bytes) (λ page. page) 2 front.next_page front.free_pages front.free_page 0 (list_left bytes 0 front list (taken_none bytes front says list))

-- the same once a page is taken
pub next_pass : (bytes : List ℕ) (front : Super) (page : ℕ) (after : Super) → FreePages bytes → SaysSuper (page_bytes bytes 0) front → TakesPage bytes front page after
    → list_check (free_page_of bytes) (λ page. page) 2 after.next_page after.free_pages after.free_page 0 None
next_pass bytes front page after list says takes =
    list_passes (free_page_of bytes) (λ page. page) 2 after.next_page after.free_pages after.free_page 0
    (list_left bytes 1 after list (subst (λ (f : Super). HasTaken bytes 1 f) (sym takes.after_is) (taken_one bytes 0 front list (taken_none bytes front says list))))

pub free_slots_pass : (bytes : List ℕ) (front : Super) → FreeSlots bytes → SaysSuper (page_bytes bytes 0) front
    → list_check (free_slot_of bytes) (slot_page bytes) 0 front.next_slot front.free_slots front.free_slot 0 None
free_slots_pass bytes front list says =
    subst (λ (n : ℕ). list_check (free_slot_of bytes) (slot_page bytes) 0 n front.free_slots front.free_slot 0 None) (sym says.next_slot)
    (subst (λ (n : ℕ). list_check (free_slot_of bytes) (slot_page bytes) 0 (next_slot bytes) n front.free_slot 0 None) (sym says.free_slots)
    (subst (λ (n : ℕ). list_check (free_slot_of bytes) (slot_page bytes) 0 (next_slot bytes) (free_slots bytes) n 0 None) (sym says.free_slot)
    (list_passes (free_slot_of bytes) (slot_page bytes) 0 (next_slot bytes) (free_slots bytes) (free_slot bytes) 0 list)))

-- the pages of the action that adds a pair
pub adding_at : (shape : Shape) (bytes : List ℕ) → length bytes ≡ data_len shape → (half : ℕ) → half + half ≡ page_count shape → (slot page : ℕ) → slot ≡ slot_due bytes
    → adding_pages half slot page ≡ slot_page bytes (slot_due bytes) ∷ page ∷ 0 ∷ []
adding_at shape bytes long half all slot page is =
    let place : half + slot / 8 ≡ slot_page bytes (slot_due bytes) = ap (λ (s : ℕ). half + s / 8) is ∙ sym (slot_page_is shape bytes long half (slot_due bytes) all) in
    ap (λ (x : ℕ). x ∷ page ∷ 0 ∷ []) place
