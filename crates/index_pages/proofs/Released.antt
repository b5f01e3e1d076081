-- Slots and pages that are given back: when they can be, and what the lists say once the super page is written.
use Rattle.std.proofs.Common.{◌≡◌, ◌≢◌, ℕ, suc, ◌+◌, ◌^◌, ◌<◌, ◌≤◌, inl, inr, List, length, Option, Some, None, refl, sym, ◌∙◌, ap, subst, arith}
use Rattle.std.specs.Prelude.{nat_eq, slice_index, false}
use Rattle.std.proofs.lemmas.Bool.{cases_eq, cases_lt, ne_eqb}
use Rattle.record_slots.specs.Free.{free_said, free_slot_bytes, free_page_bytes}
use Rattle.record_slots.specs.Super.{SaysSuper}
use Rattle.record_slots.specs.Places.{page_bytes, slot_of, next_slot, next_page, free_slot, free_page, free_slots, free_pages, free_slot_of, free_page_of, page_due, Carries}
use Rattle.record_slots.specs.declared.free.Free.{Free}
use Rattle.record_slots.specs.declared.super_page.Super.{Super}
use Rattle.record_slots.proofs.Freed.{free_slot_back, free_page_back}
use Rattle.page_store.specs.Pairs.{Pair}
use Rattle.page_store.specs.Removes.{FreesSlot, FreesPage}
use Rattle.index_pages.specs.Giving.{MayGive, GivesSlot, GivesPage}
use Rattle.index_pages.specs.Page.{kind_of, kind_said}
use Rattle.index_pages.proofs.Carrying.{free_carries}
use Rattle.record_slots.proofs.ReadingBack.{IsWritable}
use Rattle.index_pages.proofs.Stacks.{IsList, list_pushed, list_room}
use Rattle.index_pages.proofs.Taken.{FreeSlots, FreePages, due_free, due_next, taken_none, taken_writable}

-- a slot that carries a key is not free
pub carries_not_free : (bytes : List ℕ) (table : ℕ) (p : Pair) → Carries bytes table p → free_slot_of bytes p.1 ≡ None
carries_not_free bytes table p carries = here (free_slot_of bytes p.1) refl
  where
    here : (o : Option Free) → free_slot_of bytes p.1 ≡ o → free_slot_of bytes p.1 ≡ None
    here None is = is
    here (Some free) is = absurd (free_carries bytes table p free is carries)

-- a page that says that it is free is of a kind of its own
pub free_kind : (bytes : List ℕ) (x : ℕ) → free_page_of bytes x ≢ None → kind_of bytes x ≡ 255
unfolding free_said kind_said
free_kind bytes x free = elim (cases_eq (slice_index (page_bytes bytes x) 0) 255) [
  | inl is ↦ is
  | inr other ↦ absurd (free (let b : nat_eq (slice_index (page_bytes bytes x) 0) 255 ≡ false = ne_eqb (slice_index (page_bytes bytes x) 0) 255 other in rw b refl))
]

pub other_not_free : (bytes : List ℕ) (x : ℕ) → kind_of bytes x ≢ 255 → free_page_of bytes x ≡ None
unfolding free_said kind_said
other_not_free bytes x other = (let b : nat_eq (slice_index (page_bytes bytes x) 0) 255 ≡ false = ne_eqb (slice_index (page_bytes bytes x) 0) 255 other in rw b refl)

-- no given page that is not free is due
pub kept_not_due : (bytes : List ℕ) (x i : ℕ) → FreePages bytes → x < next_page bytes → (free_page_of bytes x ≢ None → ⊥) → x ≢ page_due bytes i
kept_not_due bytes x i list less taken same = elim (cases_lt i (free_pages bytes)) [
  | inl free ↦
      let d = due_free bytes list i free in
      taken (subst (λ (y : ℕ). free_page_of bytes y ≢ None) (sym same) d.3)
  | inr more ↦
      let d = due_next bytes list i (omega (arith, more)) in
      omega (arith, less, same, d)
]

-- what can be given back to a super page with lists: a slot, or a page, that was given out and is not free
pub may_give_slot : (bytes : List ℕ) (front : Super) (slot : ℕ) → FreeSlots bytes → front.version ≡ 2 → front.next_slot ≡ next_slot bytes → front.free_slots ≡ free_slots bytes
    → slot < next_slot bytes → free_slot_of bytes slot ≡ None → MayGive front.version slot front.next_slot front.free_slots
may_give_slot bytes front slot list two next many less none =
    let room = list_room (free_slot_of bytes) 0 (next_slot bytes) (free_slots bytes) (free_slot bytes) slot list (omega arith) less none in
    record { lists = two; given = omega (arith, less, next); some = omega (arith, room, next, many) }

pub may_give_page : (bytes : List ℕ) (front : Super) (page : ℕ) → FreePages bytes → front.version ≡ 2 → front.next_page ≡ next_page bytes → front.free_pages ≡ free_pages bytes
    → 2 ≤ page → page < next_page bytes → free_page_of bytes page ≡ None → MayGive front.version page front.next_page front.free_pages
may_give_page bytes front page list two next many from less none =
    let room = list_room (free_page_of bytes) 2 (next_page bytes) (free_pages bytes) (free_page bytes) page list from less none in
    record { lists = two; given = omega (arith, less, next); some = omega (arith, room, next, many) }

-- a super page that was read can be written
pub read_writable : (bytes : List ℕ) (front : Super) → FreeSlots bytes → FreePages bytes → SaysSuper (page_bytes bytes 0) front → length front.entries ≡ 256 → next_slot bytes < 2 ^ 31 → 2 ≤ next_page bytes
    → next_page bytes < 2 ^ 31 → IsWritable front
read_writable bytes front slots pages says long small some small' = taken_writable bytes 0 front slots pages (taken_none bytes front says pages) long small some (omega (arith, small'))

-- so can one to which a slot, or a page, was given back
module _ (front after : Super) (number : ℕ) (free : Free) (is : IsWritable front) where
  pub slot_given_writable : GivesSlot front number free after → IsWritable after
  slot_given_writable gives = subst (λ (f : Super). IsWritable f) (sym gives.after_is) (record {
    whole = record {
      entries = is.whole.entries;
      next_slot = is.whole.next_slot;
      next_page = is.whole.next_page;
      free_slot = omega (arith, gives.may.given, is.whole.next_slot);
      free_page = is.whole.free_page;
      free_slots = omega (arith, gives.may.some, is.whole.next_slot);
      free_pages = is.whole.free_pages;
    };
    none = λ one. absurd (omega (arith, one, gives.may.lists));
  })

  pub page_given_writable : GivesPage front number free after → IsWritable after
  page_given_writable gives = subst (λ (f : Super). IsWritable f) (sym gives.after_is) (record {
    whole = record {
      entries = is.whole.entries;
      next_slot = is.whole.next_slot;
      next_page = is.whole.next_page;
      free_slot = is.whole.free_slot;
      free_page = omega (arith, gives.may.given, is.whole.next_page);
      free_slots = is.whole.free_slots;
      free_pages = omega (arith, gives.may.some, is.whole.next_page);
    };
    none = λ one. absurd (omega (arith, one, gives.may.lists));
  })

  -- what is written there is read back
  pub slot_given_said : (bytes : List ℕ) → GivesSlot front number free after → slot_of bytes number ≡ free_slot_bytes free → free_slot_of bytes number ≡ Some free
  slot_given_said bytes gives written =
      let next : free.next < 2 ^ 32 = subst (λ (f : Free). f.next < 2 ^ 32) (sym gives.free_is) is.whole.free_slot in
      let rank : free.rank < 2 ^ 32 = subst (λ (f : Free). f.rank < 2 ^ 32) (sym gives.free_is) (let low = gives.may.some in let high = is.whole.next_slot in omega (arith, low, high)) in
      ap (free_said 0xF0 2) written ∙ free_slot_back free next rank

  pub page_given_said : (bytes : List ℕ) → GivesPage front number free after → page_bytes bytes number ≡ free_page_bytes free → free_page_of bytes number ≡ Some free
  page_given_said bytes gives written =
      let next : free.next < 2 ^ 32 = subst (λ (f : Free). f.next < 2 ^ 32) (sym gives.free_is) is.whole.free_page in
      let rank : free.rank < 2 ^ 32 = subst (λ (f : Free). f.rank < 2 ^ 32) (sym gives.free_is) (let low = gives.may.some in let high = is.whole.next_page in omega (arith, low, high)) in
      ap (free_said 0xFF 4) written ∙ free_page_back free next rank

-- the super page is as before but for the list
pub slot_given_rest : (front after : Super) (slot : ℕ) (free : Free) → GivesSlot front slot free after
    → (after.version ≡ front.version) × (after.form ≡ front.form) × (after.entries ≡ front.entries) × (after.next_slot ≡ front.next_slot) × (after.next_page ≡ front.next_page)
    × (after.free_page ≡ front.free_page) × (after.free_pages ≡ front.free_pages)
slot_given_rest front after slot free gives = rw gives.after_is (refl, refl, refl, refl, refl, refl, refl)

pub page_given_rest : (front after : Super) (page : ℕ) (free : Free) → GivesPage front page free after
    → (after.version ≡ front.version) × (after.form ≡ front.form) × (after.entries ≡ front.entries) × (after.next_slot ≡ front.next_slot) × (after.next_page ≡ front.next_page)
    × (after.free_slot ≡ front.free_slot) × (after.free_slots ≡ front.free_slots)
page_given_rest front after page free gives = rw gives.after_is (refl, refl, refl, refl, refl, refl, refl)

-- The data says that it was given back: `after` was written, which says of its list what `given` does.
pub slot_frees : (old new : List ℕ) (front given after : Super) (slot : ℕ) (free : Free) → SaysSuper (page_bytes old 0) front → SaysSuper (page_bytes new 0) after → GivesSlot front slot free given
    → after.free_slot ≡ given.free_slot → after.free_slots ≡ given.free_slots → free_slot_of new slot ≡ Some free → FreesSlot slot old new
slot_frees old new front given after slot free was says gives first many said =
    let after_first : after.free_slot ≡ slot + 1 = first ∙ ap (λ (f : Super). f.free_slot) gives.after_is in
    let after_many : after.free_slots ≡ front.free_slots + 1 = many ∙ ap (λ (f : Super). f.free_slots) gives.after_is in
    let rank : front.free_slots + 1 ≡ suc (free_slots old) = omega (arith, was.free_slots) in
    record {
      first = omega (arith, after_first, says.free_slot);
      more = omega (arith, after_many, rank, says.free_slots);
      says = said ∙ ap (λ (f : Free). Some f) gives.free_is ∙ (λ i. Some (record { next = was.free_slot i; rank = rank i }));
    }

pub page_frees : (old new : List ℕ) (front given after : Super) (page : ℕ) (free : Free) → front.free_page ≡ free_page old → front.free_pages ≡ free_pages old → SaysSuper (page_bytes new 0) after
    → GivesPage front page free given → after.free_page ≡ given.free_page → after.free_pages ≡ given.free_pages → free_page_of new page ≡ Some free → FreesPage page old new
page_frees old new front given after page free was was' says gives first many said =
    let after_first : after.free_page ≡ page + 1 = first ∙ ap (λ (f : Super). f.free_page) gives.after_is in
    let after_many : after.free_pages ≡ front.free_pages + 1 = many ∙ ap (λ (f : Super). f.free_pages) gives.after_is in
    let rank : front.free_pages + 1 ≡ suc (free_pages old) = omega (arith, was') in
    record {
      first = omega (arith, after_first, says.free_page);
      more = omega (arith, after_many, rank, says.free_pages);
      says = said ∙ ap (λ (f : Free). Some f) gives.free_is ∙ (λ i. Some (record { next = was i; rank = rank i }));
    }

-- the lists then
pub slots_back : (old new : List ℕ) (slot : ℕ) → FreeSlots old → FreesSlot slot old new → next_slot new ≡ next_slot old → slot < next_slot old
    → ((x : ℕ) → free_slot_of old x ≢ None → free_slot_of new x ≡ free_slot_of old x) → FreeSlots new
slots_back old new slot list frees next less same =
    let l = list_pushed (free_slot_of old) (free_slot_of new) 0 (next_slot old) (free_slots old) (free_slot old) slot list (omega arith) less frees.says (λ x low high some. same x some) in
    subst (λ (n : ℕ). IsList (free_slot_of new) 0 n (free_slots new) (free_slot new)) (sym next)
    (subst (λ (n : ℕ). IsList (free_slot_of new) 0 (next_slot old) n (free_slot new)) (sym frees.more)
    (subst (λ (n : ℕ). IsList (free_slot_of new) 0 (next_slot old) (suc (free_slots old)) n) (sym frees.first) l))

pub pages_back : (old new : List ℕ) (page : ℕ) → FreePages old → FreesPage page old new → next_page new ≡ next_page old → 2 ≤ page → page < next_page old
    → ((x : ℕ) → free_page_of old x ≢ None → 2 ≤ x → x < next_page old → free_page_of new x ≡ free_page_of old x) → FreePages new
pages_back old new page list frees next from less same =
    let l = list_pushed (free_page_of old) (free_page_of new) 2 (next_page old) (free_pages old) (free_page old) page list from less frees.says (λ x low high some. same x some low high) in
    subst (λ (n : ℕ). IsList (free_page_of new) 2 n (free_pages new) (free_page new)) (sym next)
    (subst (λ (n : ℕ). IsList (free_page_of new) 2 (next_page old) n (free_page new)) (sym frees.more)
    (subst (λ (n : ℕ). IsList (free_page_of new) 2 (next_page old) (suc (free_pages old)) n) (sym frees.first) l))
