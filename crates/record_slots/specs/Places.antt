-- Where super page, slots and pages lie in the data, and what makes super page and slots sound.
use Rattle.std.specs.Prelude.{ℕ, ◌≡◌, ◌+◌, ◌-◌, ◌*◌, ◌/◌, ◌<◌, ◌≤◌, nat_eq, nat_lt, if◌then◌else◌, List, [], ◌∷◌, length, slice_get, Option, Some, None}
use Rattle.std.specs.Option.{option_map}
use Rattle.mars_base.specs.Bytes.{range}
use Rattle.record_slots.specs.Slots.{slot_said}
use Rattle.record_slots.specs.Free.{free_said, member_at}
use Rattle.record_slots.specs.Super.{HasSuperMark, HasTables, version_said, form_said, next_said, entries_said, tables_said, free_in}
use Rattle.record_slots.specs.declared.free.Free.{Free}
use Rattle.record_slots.specs.declared.super_page.TableEntry.{TableEntry}
use Rattle.record_slots.specs.declared.slot.Slot.{Slot}
use Rattle.record_slots.specs.declared.slot.Slot.TheVariants.{Absent, Present}

-- a page of the data
unfoldable pub page_bytes : List ℕ → ℕ → List ℕ
page_bytes bytes page = range bytes (512 * page) 512

-- how many pages there are
abbrev pub page_count : List ℕ → ℕ
page_count bytes = length bytes / 512

-- how many slots there are: each page of the upper half has eight
abbrev pub slot_count : List ℕ → ℕ
slot_count bytes = 4 * (length bytes / 512)

-- the first page of slots, which follows all index pages
abbrev pub first_slot_page : List ℕ → ℕ
first_slot_page bytes = length bytes / 512 / 2

-- the address of a slot, its page, and its bytes
abbrev pub slot_at : List ℕ → ℕ → ℕ
slot_at bytes slot = 64 * (slot_count bytes + slot)

abbrev pub slot_page : List ℕ → ℕ → ℕ
slot_page bytes slot = slot_at bytes slot / 512

unfoldable pub slot_of : List ℕ → ℕ → List ℕ
slot_of bytes slot = range bytes (slot_at bytes slot) 64

-- the next slot and the next page to give out, as page 0 says
abbrev pub next_slot : List ℕ → ℕ
next_slot bytes = next_said 8 (page_bytes bytes 0)

abbrev pub next_page : List ℕ → ℕ
next_page bytes = next_said 12 (page_bytes bytes 0)

-- its version, its tables by their numbers, and the root of a table
abbrev pub version_of : List ℕ → ℕ
version_of bytes = version_said (page_bytes bytes 0)

abbrev pub tables_of : List ℕ → List TableEntry
tables_of bytes = tables_said (page_bytes bytes 0)

abbrev pub root_of : List ℕ → ℕ → Option ℕ
root_of bytes table = option_map (λ entry. entry.root) (slice_get (tables_of bytes) table)

-- the first free slot and the first free page by their numbers plus 1, 0 for none, and how many there are of each
abbrev pub free_slot : List ℕ → ℕ
free_slot bytes = free_in 272 (page_bytes bytes 0)

abbrev pub free_page : List ℕ → ℕ
free_page bytes = free_in 276 (page_bytes bytes 0)

abbrev pub free_slots : List ℕ → ℕ
free_slots bytes = free_in 280 (page_bytes bytes 0)

abbrev pub free_pages : List ℕ → ℕ
free_pages bytes = free_in 284 (page_bytes bytes 0)

-- what a slot, or a page, says if it is free
abbrev pub free_slot_of : List ℕ → ℕ → Option Free
free_slot_of bytes slot = free_said 0xF0 2 (slot_of bytes slot)

abbrev pub free_page_of : List ℕ → ℕ → Option Free
free_page_of bytes page = free_said 0xFF 4 (page_bytes bytes page)

-- how many slots are in use, and how many pages, the super page among them: those given out that are not free
abbrev pub used_slots : List ℕ → ℕ
used_slots bytes = next_slot bytes - free_slots bytes

abbrev pub used_pages : List ℕ → ℕ
used_pages bytes = next_page bytes - free_pages bytes

-- the slot that is taken next: the first free one, or the next to give out if none is free
abbrev pub slot_due : List ℕ → ℕ
slot_due bytes = if nat_eq (free_slots bytes) 0 then next_slot bytes else free_slot bytes - 1

-- the page that is taken after n others: the free ones in the order of their list, and then the next to give out
abbrev pub page_due : List ℕ → ℕ → ℕ
page_due bytes n =
    if nat_lt n (free_pages bytes) then member_at (free_page_of bytes) (free_page bytes) n - 1
    else next_page bytes + (n - free_pages bytes)

-- Page 0 is the super page of an index of this form. No more slots are given than there are, and no more pages than lie below
-- those of the slots. The super page and page 1 always count as given. Its entries are those of tables whose roots are given pages.
pub record IsSuper (form : ℕ) (bytes : List ℕ) : Type 0 where
  pub has_mark : HasSuperMark (page_bytes bytes 0)
  pub form_is : form_said (page_bytes bytes 0) ≡ form
  pub slots : next_slot bytes ≤ slot_count bytes
  pub some_pages : 2 ≤ next_page bytes
  pub pages : next_page bytes ≤ first_slot_page bytes
  pub tables : HasTables (version_of bytes) (next_page bytes) (entries_said (page_bytes bytes 0))

-- these bytes say a slot of this table and key, present or absent
abbrev pub IsOfKey : ℕ → ℕ → Option Slot → Type 0
IsOfKey table key None = ⊥
IsOfKey table key (Some (Absent j k)) = (j ≡ table) × (k ≡ key)
IsOfKey table key (Some (Present j k value)) = (j ≡ table) × (k ≡ key)

-- the slot of a pair (key, slot) of a table is one of that table, and carries its key
unfoldable pub Carries : List ℕ → ℕ → ℕ × ℕ → Type 0
Carries bytes table pair = IsOfKey table pair.0 (slot_said (slot_of bytes pair.1))

-- the slots of these pairs of a table are given, and carry their keys
abbrev pub AreGiven : List ℕ → ℕ → List (ℕ × ℕ) → Type 0
AreGiven bytes table [] = Unit {0}
AreGiven bytes table (pair ∷ pairs) = (pair.1 < next_slot bytes) × Carries bytes table pair × AreGiven bytes table pairs
