-- The check of what all indexes stand on: the super page, the lists of what is free, and the slots that pairs name; and what a check of
-- data answers.
use Rattle.std.specs.Prelude.{ℕ, zero, suc, ◌≡◌, ◌-◌, ◌<◌, ◌≤◌, List, Option, Some, None, Result, Ok, Err}
use Rattle.std.specs.List.{enumerate_from}
use Rattle.std.specs.Option.{IsSomeAnd}
use Rattle.mars_base.specs.Check.{Check, test, both, each}
use Rattle.record_slots.specs.Free.{next_of}
use Rattle.record_slots.specs.Places.{next_slot, next_page, Carries, slot_page, IsSuper, tables_of, free_slot, free_page, free_slots, free_pages, free_slot_of, free_page_of}
use Rattle.record_slots.specs.declared.free.Free.{Free}
use Rattle.record_slots.specs.declared.super_page.TableEntry.{TableEntry}
use Rattle.page_store.specs.Pairs.{Pair}
use Rattle.page_store.specs.declared.index_fault.CheckFault.{CheckFault}
use Rattle.page_store.specs.declared.index_fault.CheckFault.TheVariants.{Damaged}

-- the slot of a pair of this page is given, or the page is bad; and it carries the key for the table, or the slot's own page is
abbrev pub slot_check : List ℕ → ℕ → ℕ → Pair → Check ℕ
slot_check bytes table page pair = both (test (pair.1 < next_slot bytes) page) (test (Carries bytes table pair) (slot_page bytes pair.1))

-- the number plus 1 of one from `low` on and below `end`
abbrev pub Names : ℕ → ℕ → ℕ → Type 0
Names low end named = (low < named) × (named ≤ end)

-- it is free, and has this rank
abbrev pub HasRank : ℕ → Option Free → Type 0
HasRank rank said = IsSomeAnd said (λ free. free.rank ≡ rank)

-- A list of as many as are counted, each from `low` on and below `end`, the first of them named by its number plus 1. Each is free, and ranks
-- fall by one to 1. Whoever names a wrong one is bad, at first this page; one that is not free, or of a wrong rank, is bad itself.
abbrev pub list_check : (ℕ → Option Free) → (ℕ → ℕ) → ℕ → ℕ → ℕ → ℕ → ℕ → Check ℕ
list_check said page_of low end zero named page = test (named ≡ 0) page
list_check said page_of low end (suc n) named page =
    both (test ((low < named) × (named ≤ end)) page) (both (test (IsSomeAnd (said (named - 1)) (λ free. free.rank ≡ suc n)) (page_of (named - 1)))
    (list_check said page_of low end n (next_of (said (named - 1))) (page_of (named - 1))))

-- the list of free slots, and then that of free pages
abbrev pub slots_check : List ℕ → Check ℕ
slots_check bytes = list_check (free_slot_of bytes) (slot_page bytes) 0 (next_slot bytes) (free_slots bytes) (free_slot bytes) 0

abbrev pub pages_check : List ℕ → Check ℕ
pages_check bytes = list_check (free_page_of bytes) (λ page. page) 2 (next_page bytes) (free_pages bytes) (free_page bytes) 0

-- tables one after another, from this number on, each told by its root and its number
abbrev pub tables_check : (ℕ → ℕ → Check ℕ) → ℕ → List TableEntry → Check ℕ
tables_check check table entries = each (λ entry. check entry.1.root entry.0) (enumerate_from table entries)

-- the whole index of this form: the super page first, then the lists, then the index of each table
abbrev pub index_check : ℕ → (List ℕ → ℕ → ℕ → Check ℕ) → List ℕ → Check ℕ
index_check form check bytes =
    both (test (IsSuper form bytes) 0)
    (both (both (list_check (free_slot_of bytes) (slot_page bytes) 0 (next_slot bytes) (free_slots bytes) (free_slot bytes) 0)
    (list_check (free_page_of bytes) (λ page. page) 2 (next_page bytes) (free_pages bytes) (free_page bytes) 0))
    (each (λ entry. check bytes entry.1.root entry.0) (enumerate_from 0 (tables_of bytes))))

-- The answer is the verdict of a check: no page is bad, or this one is the first that is. A fault of the medium says nothing of the data.
abbrev pub IsVerdict : {T : Type 0} → Check ℕ → Result T CheckFault → Type 0
IsVerdict check (Ok answer) = check None
IsVerdict check (Err (Damaged bad)) = check (Some bad)
IsVerdict check (Err fault) = Unit {0}
