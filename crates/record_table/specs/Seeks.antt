-- What a look-up of a key and of its slot reads, over any store, and what it costs.
use Rattle.std.specs.Prelude.{ℕ, ◌≡◌, ◌+◌, ◌*◌, ◌/◌, ◌<◌, ◌≤◌, Bool, true, false, IsFalse, List, [], ◌∷◌, length, Option, Some, None, IfSome, IfOk, Result, Ok, Err}
use Rattle.std.specs.Option.{option_map}
use Rattle.array_shape.specs.Places.{page_count}
use Rattle.array_shape.specs.declared.shape.Shape.{Shape}
use Rattle.eaw_face.specs.Command.{Command}
use Rattle.eaw_face.specs.State.{listed}
use Rattle.eaw_face.specs.StoreView.{StoreView}
use Rattle.page_store.specs.Course.{Reading, Course, IsWay, AreThere}
use Rattle.page_store.specs.Follows.{IsLast, reads_cost}
use Rattle.page_store.specs.Index.{slots_of, index_pages_of}
use Rattle.page_store.specs.Looks.{is_failed}
use Rattle.page_store.specs.Reads.{seen_cost}
use Rattle.page_store.specs.Records.{value_of}
use Rattle.page_store.specs.declared.fault.PageFault.{PageFault}
use Rattle.page_store.specs.declared.fault.PageFault.TheVariants.{Damaged}
use Rattle.record_slots.specs.declared.slot.Slot.{Slot}
use Rattle.record_table.specs.Faults.{as_table}
use Rattle.record_table.specs.Hearing.{Hearing}
use Rattle.record_table.specs.Sought.{value_at}
use Rattle.record_table.specs.declared.fault.TableFault.{TableFault}
use Rattle.record_table.specs.declared.fault.TableFault.TheVariants as table
use Rattle.record_table.specs.declared.slots.Place.{Place}

-- the calls of a read of a slot as number t, if one was read
abbrev pub slot_cost : (Command → ℕ) → ℕ → StoreView → Option ℕ → ℕ
slot_cost calls t store None = 0
slot_cost calls t store (Some slot) = seen_cost calls t (64 * (slots_of store.shape + slot)) 64 (listed (store.ranges t))

-- so of one slot
abbrev pub row_cost : (Command → ℕ) → ℕ → StoreView → ℕ → ℕ
row_cost calls t store slot = slot_cost calls t store (Some slot)

-- the page that was read last: that of the slot, or else the last one of the index
abbrev pub IsRead : Shape → List Reading → Option ℕ → ℕ → Type 0
IsRead shape read None page = IsLast read page
IsRead shape read (Some slot) page = page ≡ index_pages_of shape + slot / 8

-- a page that is answered as damaged was read last
abbrev pub Blames : {T : Type 0} → Shape → List Reading → Option ℕ → Result T PageFault → Type 0
Blames shape read slot (Err (Damaged page)) = IsRead shape read slot page
Blames shape read slot _ = Unit {0}

-- What the slot of a key said that was read for a look, behind others, if the index led to one: the answer is the slot with the value that it
-- said, and its page is damaged exactly where it said nothing.
abbrev pub IsHeard : ℕ → Option ℕ → (before after : List Hearing) → Result (Option Place) PageFault → Type 0
IsHeard key None before after result = (after ≡ before) × IfOk result (λ place. place ≡ None)
IsHeard key (Some slot) before after (Ok place) = (said : Slot) × (after ≡ (key, slot, Some said) ∷ before) × (place ≡ Some (record { slot = slot; value = value_of (Some said) }))
IsHeard key (Some slot) before after (Err (Damaged page)) = after ≡ (key, slot, None) ∷ before
IsHeard key (Some slot) before after (Err fault) = after ≡ before

-- The pages of the index were read on their course, and then the slot that they lead to, if they lead to one, and nothing else was: the
-- calls are those of these reads. At Ok the slot is the one that the pages answer, or they answer none, and the value is the one that it
-- said. `Damaged` names the page that was read last.
pub record Seeks (course : Course (Option ℕ)) (key t : ℕ) (calls : Command → ℕ) (before after : List Hearing) (old : StoreView) (now : ℕ) (result : Result (Option Place) PageFault) : Type 0 where
  pub read : List Reading
  pub slot : Option ℕ
  pub there : AreThere (page_count old.shape) read
  pub way : IsWay course.goes read
  pub few : length read ≤ course.most old.shape
  pub inside : IfSome slot (λ slot. slot < slots_of old.shape)
  pub most : now ≤ old.moment + (reads_cost calls read + slot_cost calls t old slot)
  pub exact : IsFalse (is_failed result) → now ≡ old.moment + (reads_cost calls read + slot_cost calls t old slot)
  pub answers : IfOk result (λ place. (course.answer read ≡ Some (option_map (λ place. place.slot) place)) × (slot ≡ option_map (λ place. place.slot) place))
  pub hears : IsHeard key slot before after result
  pub blames : Blames old.shape read slot result

-- an answer of the look-up, in terms of records
abbrev pub as_got : Result (Option Place) PageFault → Result (Option (List ℕ)) TableFault
as_got (Ok place) = Ok (value_at place)
as_got (Err fault) = Err (as_table fault)

-- A read of a record makes such a look-up, does nothing else, and tells its answer.
pub record Gets (course : Course (Option ℕ)) (key t : ℕ) (calls : Command → ℕ) (old new : StoreView) (result : Result (Option (List ℕ)) TableFault) : Type 0 where
  pub sought : Result (Option Place) PageFault
  pub hearings : List Hearing
  pub seeks : Seeks course key t calls [] hearings old new.moment sought
  pub told : result ≡ as_got sought

-- what a removal answers, by the value that was found; the write behind it does not find damage
abbrev pub IsErased : Option (List ℕ) → Result Bool TableFault → Type 0
IsErased None result = result ≡ Ok false
IsErased (Some value) (Ok was) = was ≡ true
IsErased (Some value) (Err (table.Damaged page)) = ⊥
IsErased (Some value) (Err fault) = Unit {0}

abbrev pub AnswersErase : Result (Option Place) PageFault → Result Bool TableFault → Type 0
AnswersErase (Ok place) result = IsErased (value_at place) result
AnswersErase (Err fault) result = result ≡ Err (as_table fault)

-- A removal of a record makes such a look-up, and follows its answer: there was a record exactly where the slot said one.
pub record Erases (course : Course (Option ℕ)) (key t : ℕ) (calls : Command → ℕ) (old : StoreView) (result : Result Bool TableFault) : Type 0 where
  pub behind : ℕ
  pub sought : Result (Option Place) PageFault
  pub hearings : List Hearing
  pub seeks : Seeks course key t calls [] hearings old behind sought
  pub answers : AnswersErase sought result
