-- What an index makes of the data of a store.
use Rattle.std.specs.Prelude.{ℕ, suc, ◌≡◌, ◌≢◌, ◌+◌, ◌*◌, ◌/◌, ◌<◌, ◌≤◌, ◌⊎◌, List, length, Option, Some, None}
use Rattle.array_shape.specs.declared.shape.Shape.{Shape}
use Rattle.array_shape.specs.Places.{page_count}
use Rattle.record_slots.specs.Slots.{slot_bytes}
use Rattle.record_slots.specs.Super.{HasSuperMark, HasTables, form_said, entries_said}
use Rattle.record_slots.specs.IndexHead.{index_head_said}
use Rattle.record_slots.specs.Fresh.{fresh_root}
use Rattle.record_slots.specs.declared.slot.Slot.TheVariants.{Absent}
use Rattle.record_slots.specs.Places.{page_bytes, slot_of, next_slot, next_page, slot_count, first_slot_page, version_of, tables_of, root_of, free_slot, free_page, free_slots, free_pages, free_slot_of, used_slots, slot_due, page_due, Carries}
use Rattle.page_store.specs.Pairs.{Pair, inserted}

-- one nested top action of an insertion: the pages that its parts lie in, one for each part, and how many new pages it takes
pub record Action : Type 0 where
  pub pages : List ℕ
  pub takes : ℕ

-- What an index makes of data that has one for each table: which data is sound, and which page fails first. And for the index of one table,
-- told by its root: its pairs (key, slot); how many levels of inner pages stand above its leaves; which pages it has; the actions that the
-- insertion of a key makes, splits first; and the pages that the parts of a key's removal lie in, or none if the key's pair is the last of its
-- page and stays there.
pub record Index : Type 1 where
  pub sound : List ℕ → Type 0
  pub fails : List ℕ → ℕ → Type 0
  pub pairs : List ℕ → ℕ → List Pair
  pub level : List ℕ → ℕ → ℕ
  pub has_page : List ℕ → ℕ → ℕ → Type 0
  pub actions : List ℕ → ℕ → ℕ → List Action
  pub removal : List ℕ → ℕ → ℕ → Option (List ℕ)

-- there are four slots for each page of the array; half of the pages are for the index, among them the super page
abbrev pub slots_of : Shape → ℕ
slots_of shape = 4 * page_count shape

abbrev pub index_pages_of : Shape → ℕ
index_pages_of shape = page_count shape / 2

-- the table of this number has this root
abbrev pub IsTable : List ℕ → ℕ → ℕ → Type 0
IsTable bytes table root = root_of bytes table ≡ Some root

-- The super page is of version 1 or 2, and has entries of tables. No more slots are in use than there are, and no more pages than lie below
-- those of slots; what is free was given out; and the first table has root 1.
pub record HasCounts (bytes : List ℕ) : Type 0 where
  pub oldest : 1 ≤ version_of bytes
  pub newest : version_of bytes ≤ 2
  pub slots : next_slot bytes ≤ slot_count bytes
  pub some : 2 ≤ next_page bytes
  pub pages : next_page bytes ≤ first_slot_page bytes
  pub free_slots_few : free_slots bytes ≤ next_slot bytes
  pub free_pages_few : free_pages bytes + 2 ≤ next_page bytes
  pub due : free_slots bytes ≢ 0 → slot_due bytes < next_slot bytes
  pub main : IsTable bytes 0 1
  pub mark : HasSuperMark (page_bytes bytes 0)
  pub tables : HasTables (version_of bytes) (next_page bytes) (entries_said (page_bytes bytes 0))

-- The index pages are as they were. Each given slot that carries a key of a table still carries it, and each free slot is as it was.
pub record KeepsIndex (old new : List ℕ) : Type 0 where
  pub size : length new ≡ length old
  pub pages : (page : ℕ) → page < first_slot_page old → page_bytes new page ≡ page_bytes old page
  pub carried : (table : ℕ) (pair : Pair) → pair.1 < next_slot old → Carries old table pair → Carries new table pair
  pub free : (slot : ℕ) → slot < next_slot old → free_slot_of old slot ≢ None → slot_of new slot ≡ slot_of old slot

-- a page begins as the root of a table without pairs does
abbrev pub IsEmptyRoot : List ℕ → Type 0
IsEmptyRoot page = index_head_said page ≡ fresh_root

-- The super page has another version, or further tables with empty roots in pages that were not given. It says else what it said, but for the
-- next page. The given pages of indexes, and all slots, are as they were.
pub record Extends (old new : List ℕ) : Type 0 where
  pub size : length new ≡ length old
  pub mark : HasSuperMark (page_bytes new 0)
  pub form : form_said (page_bytes new 0) ≡ form_said (page_bytes old 0)
  pub tables : HasTables (version_of new) (next_page new) (entries_said (page_bytes new 0))
  pub named : (table root : ℕ) → IsTable new table root → IsTable old table root ⊎ ((next_page old ≤ root) × IsEmptyRoot (page_bytes new root))
  pub next_slot_same : next_slot new ≡ next_slot old
  pub later : next_page old ≤ next_page new
  pub most : next_page new ≤ first_slot_page old
  pub free_slot_same : free_slot new ≡ free_slot old
  pub free_page_same : free_page new ≡ free_page old
  pub free_slots_same : free_slots new ≡ free_slots old
  pub free_pages_same : free_pages new ≡ free_pages old
  pub pages : (page : ℕ) → 1 ≤ page → page < next_page old → page_bytes new page ≡ page_bytes old page
  pub slots : (slot : ℕ) → slot_of new slot ≡ slot_of old slot

-- the page is in the list of free pages
abbrev pub IsFreePage : List ℕ → ℕ → Type 0
IsFreePage bytes page = (n : ℕ) × (n < free_pages bytes) × (page_due bytes n ≡ page)

-- the index of this root has the pairs, the levels and the pages that it had, and these are as they were
pub record IsUntouched (index : Index) (root : ℕ) (old new : List ℕ) : Type 0 where
  pub pairs : index.pairs new root ≡ index.pairs old root
  pub level : index.level new root ≡ index.level old root
  pub pages : (page : ℕ) → index.has_page old root page → index.has_page new root page × (page_bytes new page ≡ page_bytes old page)

-- Data during an insertion into the index of this root or after it. It is sound, of the same version, with the same tables, and the index
-- of each other table is untouched. Slots given before are as they were, but for the one that is due. At most nine more pages are given;
-- each of them, and each free page that is free no more, is one of the index, which loses none; and it has no fewer levels.
pub record Grows (index : Index) (root : ℕ) (old new : List ℕ) : Type 0 where
  pub sound : index.sound new
  pub size : length new ≡ length old
  pub version : version_of new ≡ version_of old
  pub tables : tables_of new ≡ tables_of old
  pub others : (table other : ℕ) → IsTable old table other → other ≢ root → IsUntouched index other old new
  pub slots : (slot : ℕ) → slot < next_slot old → slot ≢ slot_due old → slot_of new slot ≡ slot_of old slot
  pub later : next_page old ≤ next_page new
  pub few : next_page new ≤ next_page old + 9
  pub free_pages_fall : free_pages new ≤ free_pages old
  pub named : (page : ℕ) → next_page old ≤ page → page < next_page new → index.has_page new root page
  pub taken : (page : ℕ) → IsFreePage old page → IsFreePage new page ⊎ index.has_page new root page
  pub kept : (page : ℕ) → index.has_page old root page → index.has_page new root page
  pub levels : index.level old root ≤ index.level new root

-- the pairs are those before, the same slot is due, and it is as it was; no more slots are in use
pub record Rests (index : Index) (root : ℕ) (old new : List ℕ) : Type 0 where
  pub pairs : index.pairs new root ≡ index.pairs old root
  pub slots : used_slots new ≡ used_slots old
  pub due : slot_due new ≡ slot_due old
  pub same : slot_of new (slot_due old) ≡ slot_of old (slot_due old)

-- there is one more pair: the key with the slot that was due, which is now in use, is absent, and carries the key of the table
pub record Gains (index : Index) (root table key : ℕ) (old new : List ℕ) : Type 0 where
  pub pairs : index.pairs new root ≡ inserted (index.pairs old root) key (slot_due old)
  pub slots : used_slots new ≡ suc (used_slots old)
  pub fresh : slot_of new (slot_due old) ≡ slot_bytes (Absent table key)
