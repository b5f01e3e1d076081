-- How the tests go of what all indexes stand on.
use Rattle.std.specs.Prelude.{ℕ, zero, suc, ◌≡◌, ◌≢◌, ◌+◌, ◌*◌, ◌/◌, ◌%◌, ◌<◌, ◌≤◌, Bool, true, false, nat_eq, List, [], ◌∷◌, Option, Some, None, Result, Ok, Err, IsOk, ◌-◌}
use Rattle.std.specs.Option.{option_map}
use Rattle.mars_base.specs.Bytes.{range}
use Rattle.array_shape.specs.declared.shape.Shape.{Shape}
use Rattle.eaw_face.specs.Command.{Command}
use Rattle.eaw_face.specs.StoreView.{StoreView}
use Rattle.record_slots.specs.Free.{free_said, next_of}
use Rattle.record_slots.specs.Places.{page_bytes, IsOfKey}
use Rattle.record_slots.specs.Slots.{slot_said}
use Rattle.record_slots.specs.Super.{SaysSuper, HasSuperMark, HasTables, version_said, form_said, next_said, entries_said, free_in, tables_in}
use Rattle.record_slots.specs.declared.free.Free.{Free}
use Rattle.record_slots.specs.declared.super_page.Super.{Super}
use Rattle.record_slots.specs.declared.super_page.TableEntry.{TableEntry}
use Rattle.page_store.specs.Course.{Reading}
use Rattle.page_store.specs.Follows.{HasRead, one_reading}
use Rattle.page_store.specs.Index.{index_pages_of, slots_of}
use Rattle.page_store.specs.Looks.{is_failed}
use Rattle.page_store.specs.Pairs.{Pair}
use Rattle.page_store.specs.Tested.{Excerpt, Plan, at_end, holding, reading, in_turn, Brings, HasReadBytes, is_test_failed, outcome_of}
use Rattle.page_store.specs.declared.fault.PageFault.{PageFault}
use Rattle.page_store.specs.declared.fault.PageFault.TheVariants as faults
use Rattle.page_store.specs.declared.index_fault.CheckFault.{CheckFault}
use Rattle.index_pages.specs.Slots.{Names, HasRank}
use Rattle.index_pages.specs.declared.held.HeldPage.{HeldPage}

-- one plan or another
abbrev pub whether : Bool → Plan → Plan → Plan
whether true one other = one
whether false one other = other

-- a whole page is read, unless it is held
abbrev pub with_page : Option Reading → ℕ → (List ℕ → Plan) → Plan
with_page None page next = reading page 0 512 next
with_page (Some held) page next = whether (nat_eq held.0 page) (next held.1) (reading page 0 512 next)

-- The slot of a pair of a table on a page of leaves, where so many slots are given out, in an array with so many index pages: it is one of them, and
-- carries the key. Its page is held then.
abbrev pub slot_plan : (half slots table page : ℕ) → Option Reading → Pair → (Option Reading → Plan) → Plan
slot_plan half slots table page held pair next =
    holding (pair.1 < slots) page (with_page held (half + pair.1 / 8)
    (λ said. holding (IsOfKey table pair.0 (slot_said (range said (64 * (pair.1 % 8)) 64))) (half + pair.1 / 8) (next (Some (half + pair.1 / 8, said)))))

-- those of pairs, one after another
abbrev pub slots_plan : (half slots table page : ℕ) → Option Reading → List Pair → Plan
slots_plan half slots table page held [] = at_end
slots_plan half slots table page held (p ∷ ps) = slot_plan half slots table page held p (λ now. slots_plan half slots table page now ps)

-- A list of as many as are counted, each from `low` on and below `end`, the first of them named by its number plus 1. What is read of each names the
-- next one. Whoever names a wrong one is damaged, at first this page; one that is not free, or of a wrong rank, is damaged itself.
abbrev pub list_plan : (ℕ → (Option Free → Plan) → Plan) → (ℕ → ℕ) → (low end count named page : ℕ) → Plan
list_plan said page_of low end zero named page = holding (named ≡ 0) page at_end
list_plan said page_of low end (suc n) named page =
    holding (Names low end named) page (said (named - 1) (λ free. holding (HasRank (suc n) free) (page_of (named - 1)) (list_plan said page_of low end n (next_of free) (page_of (named - 1)))))

-- what a slot, or a page, says if it is free
abbrev pub free_slot_plan : (half slot : ℕ) → (Option Free → Plan) → Plan
free_slot_plan half slot next = reading (half + slot / 8) (slot % 8 * 64) 64 (λ said. next (free_said 0xF0 2 said))

abbrev pub free_page_plan : (page : ℕ) → (Option Free → Plan) → Plan
free_page_plan page next = reading page 0 512 (λ said. next (free_said 0xFF 4 said))

-- the lists of free slots and of free pages, as the super page begins them
abbrev pub free_slots_plan : (half : ℕ) → Super → Plan
free_slots_plan half front =
    list_plan (free_slot_plan half) (λ slot. half + slot / 8) 0 front.next_slot front.free_slots front.free_slot 0

abbrev pub free_pages_plan : Super → Plan
free_pages_plan front = list_plan free_page_plan (λ page. page) 2 front.next_page front.free_pages front.free_page 0

abbrev pub lists_plan : (half : ℕ) → Super → Plan
lists_plan half front = in_turn (free_slots_plan half front) (free_pages_plan front)

-- tables one after another, from this number on, each told by its root, which is one of so many pages, and by its number
abbrev pub tables_plan : (pages : ℕ) → (ℕ → ℕ → Plan) → ℕ → List TableEntry → Plan
tables_plan pages test table [] = at_end
tables_plan pages test table (entry ∷ entries) = holding (entry.root < pages) 0 (in_turn (test entry.root table) (tables_plan pages test (suc table) entries))

-- what a super page says
abbrev pub front_said : List ℕ → Super
front_said said = record {
  version = version_said said;
  form = form_said said;
  next_slot = next_said 8 said;
  next_page = next_said 12 said;
  entries = entries_said said;
  free_slot = free_in 272 said;
  free_page = free_in 276 said;
  free_slots = free_in 280 said;
  free_pages = free_in 284 said;
}

-- it is the super page of an index of this form in an array of this shape, with its entries
pub record IsFrontSaid (form : ℕ) (shape : Shape) (said : List ℕ) : Type 0 where
  pub mark : HasSuperMark said
  pub form_is : form_said said ≡ form
  pub slots : next_said 8 said ≤ slots_of shape
  pub some : 2 ≤ next_said 12 said
  pub pages : next_said 12 said ≤ index_pages_of shape
  pub tables : HasTables (version_said said) (next_said 12 said) (entries_said said)

-- the whole index of this form: the super page, the lists of what is free, and then the index of each table
abbrev pub index_plan : (form : ℕ) → (Shape → Super → ℕ → ℕ → Plan) → Shape → Plan
index_plan form test shape =
    reading 0 0 512 (λ said. holding (IsFrontSaid form shape said) 0
    (in_turn (lists_plan (index_pages_of shape) (front_said said))
    (tables_plan (next_said 12 said) (test shape (front_said said)) 0 (tables_in (version_said said) (entries_said said)))))

-- a test made these reads, over any store, and they bring it to its answer
pub record Tries {T : Type 0} (tells : Bool) (calls calls_now : Command → ℕ) (plan : Plan) (old new : StoreView) (result : Result T CheckFault) : Type 0 where
  pub read : List Excerpt
  pub reads : HasReadBytes tells (is_test_failed result) calls calls_now old new read
  pub brings : Brings plan read (outcome_of result)

-- the page that is held, with its bytes
abbrev pub held_of : HeldPage → Option Reading
held_of held = option_map (λ page. (page, held.bytes)) held.page

-- what is left once a slot was tested: it is this page that is held then
abbrev pub held_after : {T : Type 0} → Result T CheckFault → HeldPage → Option Reading → Plan
held_after (Ok x) held now = holding (now ≡ held_of held) 0 at_end
held_after (Err fault) held now = at_end

-- what a read of bytes of one page read: what they said, or what the data has there if the medium failed; nothing if the store was dead
abbrev pub one_excerpt : {T : Type 0} → (page at len : ℕ) → (said there : List ℕ) → Result T PageFault → List Excerpt
one_excerpt page at len said there (Err faults.Dead) = []
one_excerpt page at len said there (Err faults.Media) = record { page = page; at = at; len = len; said = there } ∷ []
one_excerpt page at len said there _ = record { page = page; at = at; len = len; said = said } ∷ []

-- a super page that was read said what is answered, or its counts are not those of an index of this form
abbrev pub IsFrontOf : ℕ → Shape → List ℕ → Result Super PageFault → Type 0
IsFrontOf form shape said (Ok front) = SaysSuper said front
IsFrontOf form shape said (Err (faults.Damaged bad)) = HasSuperMark said → form_said said ≡ form → next_said 8 said ≤ slots_of shape → 2 ≤ next_said 12 said → next_said 12 said ≤ index_pages_of shape → ⊥
IsFrontOf form shape said (Err _) = Unit {0}

-- the same, with its entries
abbrev pub IsTested : ℕ → Shape → List ℕ → Result Super PageFault → Type 0
IsTested form shape said (Ok front) = IsFrontSaid form shape said × (front ≡ front_said said)
IsTested form shape said (Err (faults.Damaged bad)) = IsFrontSaid form shape said → ⊥
IsTested form shape said (Err _) = Unit {0}

-- A page is held, and nothing was read, if it was held before; or it is read.
pub record Holds {T : Type 0} (tells : Bool) (calls calls_now : Command → ℕ) (page : ℕ) (held now : HeldPage) (old new : StoreView) (result : Result T PageFault) : Type 0 where
  pub same : held.page ≡ Some page → IsOk result × (now ≡ held) × HasRead tells false calls calls_now old new []
  pub reads : held.page ≢ Some page → HasRead tells (is_failed result) calls calls_now old new (one_reading page now.bytes (page_bytes old.state.bytes page) result)
