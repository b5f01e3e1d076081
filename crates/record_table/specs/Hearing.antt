-- What slots said that were read in a call, over any store, and how answers follow from it.
use Rattle.std.specs.Prelude.{ℕ, ◌≡◌, ◌+◌, ◌/◌, ◌<◌, ◌⊎◌, List, [], ◌∷◌, ◌++◌, Option, Some, None, IsSome, Result, Ok, Err}
use Rattle.array_shape.specs.Places.{page_count}
use Rattle.array_shape.specs.declared.shape.Shape.{Shape}
use Rattle.history.specs.Writes.{Row}
use Rattle.page_store.specs.Index.{index_pages_of}
use Rattle.page_store.specs.Records.{row_at, value_of}
use Rattle.page_store.specs.declared.fault.PageFault.{PageFault}
use Rattle.page_store.specs.declared.fault.PageFault.TheVariants as page
use Rattle.record_slots.specs.declared.slot.Slot.{Slot}
use Rattle.record_table.specs.declared.fault.TableFault.{TableFault}
use Rattle.record_table.specs.declared.fault.TableFault.TheVariants.{Damaged}
use Rattle.record_table.specs.declared.scanning.Next.{Next}

-- a key, its slot, and what the slot said when it was read
abbrev pub Hearing : Type 0
Hearing = ℕ × ℕ × Option Slot

-- the page that a slot lies in
abbrev pub slot_page : Shape → ℕ → ℕ
slot_page shape slot = index_pages_of shape + slot / 8

-- each of these slots said something
abbrev pub AllSpoke : List Hearing → Type 0
AllSpoke [] = Unit {0}
AllSpoke (h ∷ hs) = IsSome h.2 × AllSpoke hs

-- each of them held a record
abbrev pub AllHeld : List Hearing → Type 0
AllHeld [] = Unit {0}
AllHeld (h ∷ hs) = IsSome (value_of h.2) × AllHeld hs

-- the slot that was read last said nothing, and lies in this page; those before it said something
abbrev pub IsSilent : Shape → List Hearing → ℕ → Type 0
IsSilent shape [] page = ⊥
IsSilent shape (h ∷ hs) page = (h.2 ≡ None) × (page ≡ slot_page shape h.1) × AllSpoke hs

-- A page of the array is damaged: that of the slot which was read last and said nothing; or, where each slot said something, one of the index, or
-- that of the slot which was read last, where there were more keys than slots.
abbrev pub IsDamage : Shape → List Hearing → ℕ → Type 0
IsDamage shape hs page = (page < page_count shape) × (IsSilent shape hs page ⊎ AllSpoke hs)

-- the rows of the records that were heard, of which the last one was heard last
abbrev pub rows_heard : List Hearing → List Row
rows_heard [] = []
rows_heard (h ∷ hs) = rows_heard hs ++ row_at h.0 (value_of h.2)

-- The slot of this pair was read, behind others: what it said is its record, and its page is damaged exactly where it said nothing.
abbrev pub HearsNext : Shape → ℕ × ℕ → (before after : List Hearing) → Result Next PageFault → Type 0
HearsNext shape pair before after (Ok next) = (said : Slot) × (after ≡ (pair.0, pair.1, Some said) ∷ before) × (next.key ≡ pair.0) × (next.value ≡ value_of (Some said))
HearsNext shape pair before after (Err (page.Damaged bad)) = (after ≡ (pair.0, pair.1, None) ∷ before) × (bad ≡ slot_page shape pair.1)
HearsNext shape pair before after (Err fault) = after ≡ before

-- so of the pair that comes next in an index, if there is one; or a page of the index is damaged
abbrev pub HearsOne : Shape → (before after : List Hearing) → Result (Option Next) PageFault → Type 0
HearsOne shape before after (Ok None) = after ≡ before
HearsOne shape before after (Ok (Some next)) = (slot : ℕ) × (said : Slot) × (after ≡ (next.key, slot, Some said) ∷ before) × (next.value ≡ value_of (Some said))
HearsOne shape before after (Err (page.Damaged bad)) = (bad < page_count shape) × (((pair : ℕ × ℕ) × (after ≡ (pair.0, pair.1, None) ∷ before) × (bad ≡ slot_page shape pair.1)) ⊎ (after ≡ before))
HearsOne shape before after (Err fault) = after ≡ before

-- The rows that an answer gives are those of the slots that were read, each of which said something; and no answer but `Damaged` comes where one
-- did not.
abbrev pub HearsRows : {T : Type 0} → Shape → List Hearing → (T → List Row) → Result T TableFault → Type 0
HearsRows shape hs rows (Ok answer) = AllSpoke hs × (rows answer ≡ rows_heard hs)
HearsRows shape hs rows (Err (Damaged page)) = IsDamage shape hs page
HearsRows shape hs rows (Err fault) = AllSpoke hs

-- the slot that was read last is that of this key, and said that it holds no record; those before it held one
abbrev pub IsHeardAbsent : ℕ → List Hearing → Type 0
IsHeardAbsent key [] = ⊥
IsHeardAbsent key (h ∷ hs) = (h.0 ≡ key) × (said : Slot) × (h.2 ≡ Some said) × (value_of (Some said) ≡ None) × AllHeld hs

-- A key is answered as absent only where its slot said so, and none only where each slot held a record.
abbrev pub HearsAbsent : Shape → List Hearing → Result (Option ℕ) TableFault → Type 0
HearsAbsent shape hs (Ok None) = AllHeld hs
HearsAbsent shape hs (Ok (Some key)) = IsHeardAbsent key hs
HearsAbsent shape hs (Err (Damaged page)) = IsDamage shape hs page
HearsAbsent shape hs (Err fault) = AllHeld hs
