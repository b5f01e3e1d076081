-- What the super page and the lists of what is free say once a slot, and maybe a page, were given back.
use Rattle.std.proofs.Common.{◌≡◌, ◌≢◌, ℕ, ◌+◌, ◌*◌, ◌<◌, ◌≤◌, List, length, Some, None, refl, sym, ◌∙◌, ap, arith}
use Rattle.mars_base.specs.Bytes.{range}
use Rattle.record_slots.specs.Free.{free_said, free_slot_bytes, free_page_bytes}
use Rattle.record_slots.specs.Super.{SaysSuper, part_bytes}
use Rattle.record_slots.specs.Places.{page_bytes, page_count, slot_of, next_slot, next_page, tables_of, free_slot_of, free_page_of, IsSuper, Carries}
use Rattle.record_slots.specs.declared.free.Free.{Free}
use Rattle.record_slots.specs.declared.super_page.Super.{Super}
use Rattle.page_store.specs.Removes.{FreesSlot, FreesPage, KeepsFreePages}
use Rattle.index_pages.specs.Giving.{GivesSlot, GivesPage}
use Rattle.record_slots.proofs.ReadingBack.{IsWritable}
use Rattle.index_pages.proofs.Fronts.{super_written, super_kept, version_kept}
use Rattle.index_pages.proofs.Released.{carries_not_free, read_writable, slot_given_writable, page_given_writable, slot_given_said, page_given_said, slot_given_rest, page_given_rest, slot_frees, page_frees, slots_back, pages_back}
use Rattle.index_pages.proofs.Tabled.{IsWhole}
use Rattle.index_pages.proofs.Taken.{free_pages_stay}
use Rattle.btree_pages.specs.Index.{tree_of, AreSoundTrees}
use Rattle.btree_pages.specs.Trees.{whole_of}
use Rattle.btree_pages.proofs.RemoveData.{GivenBack}

module _ (old : List ℕ) (half : ℕ) (size : length old ≡ 512 * (half + half)) (few : half ≤ 16384) (sound : AreSoundTrees old) (front : Super) (entries_long : length front.entries ≡ 256) (says : SaysSuper (page_bytes old 0) front)
    (slot : ℕ) (free : Free) (given : Super) (gives : GivesSlot front slot free given) (table key : ℕ) (less : slot < next_slot old) (carries : Carries old table (key, slot))
    (new : List ℕ) (new_size : length new ≡ length old) (slot_is : slot_of new slot ≡ free_slot_bytes free) (others : (j : ℕ) → j ≢ slot → slot_of new j ≡ slot_of old j) (mark : range new 0 8 ≡ range old 0 8)
    (kept : (page : ℕ) → free_page_of old page ≢ None → 2 ≤ page → page < next_page old → page_bytes new page ≡ page_bytes old page) where
  whole : IsWhole 1 tree_of old
  whole = whole_of old sound

  given_most : next_page old ≤ half
  given_most = omega (arith, whole.front.pages, size)

  slots_most : next_slot old ≤ 8 * half
  slots_most = omega (arith, whole.front.slots, size)

  count : page_count new ≡ half + half
  count = omega (arith, new_size, size)

  writable : IsWritable front
  writable = read_writable old front whole.slots whole.pages says entries_long (omega (arith, slots_most, few)) whole.front.some_pages (omega (arith, given_most, few))

  rest : (given.version ≡ front.version) × (given.form ≡ front.form) × (given.entries ≡ front.entries) × (given.next_slot ≡ front.next_slot) × (given.next_page ≡ front.next_page)
      × (given.free_page ≡ front.free_page) × (given.free_pages ≡ front.free_pages)
  rest = slot_given_rest front given slot free gives

  slot_said : free_slot_of new slot ≡ Some free
  slot_said = slot_given_said front given slot free writable new gives slot_is

  not_free : free_slot_of old slot ≡ None
  not_free = carries_not_free old table (key, slot) carries

  same_slots : (x : ℕ) → free_slot_of old x ≢ None → free_slot_of new x ≡ free_slot_of old x
  same_slots x some = ap (free_said 0xF0 2) (others x (λ e. some (ap (λ (j : ℕ). free_slot_of old j) e ∙ not_free)))

  -- no page was freed
  module _ (part : range new 8 280 ≡ part_bytes given) where
    given_writable : IsWritable given
    given_writable = slot_given_writable front given slot free writable gives

    says_now : SaysSuper (page_bytes new 0) given
    says_now = super_written old new front given mark part says rest.0 rest.1 given_writable

    front_now : IsSuper 1 new × (tables_of new ≡ tables_of old)
    front_now = super_kept 1 old new front given half count says says_now rest.0 rest.1 rest.2
        (omega (arith, rest.3, says.next_slot, slots_most)) (omega (arith, rest.4)) (omega (arith, rest.4, says.next_page, given_most)) whole.front

    next_slots : next_slot new ≡ next_slot old
    next_slots = sym says_now.next_slot ∙ rest.3 ∙ says.next_slot

    next_pages : next_page new ≡ next_page old
    next_pages = sym says_now.next_page ∙ rest.4 ∙ says.next_page

    pub given_kept_pages : KeepsFreePages old new
    given_kept_pages = record { first = sym says_now.free_page ∙ rest.5 ∙ says.free_page; many = sym says_now.free_pages ∙ rest.6 ∙ says.free_pages }

    frees : FreesSlot slot old new
    frees = slot_frees old new front given given slot free says says_now gives refl refl slot_said

    pub given_slot : GivenBack old new slot
    given_slot = record {
      front = front_now.0;
      tables = front_now.1;
      version = version_kept old new mark;
      slots = slots_back old new slot whole.slots frees next_slots less same_slots;
      pages = free_pages_stay old new whole.pages next_pages given_kept_pages.first given_kept_pages.many kept;
      freed = frees;
      next_slots = next_slots;
      next_pages = next_pages;
    }

  -- a page was
  module _ (page : ℕ) (freed : Free) (after : Super) (gives_page : GivesPage given page freed after) (page_is : page_bytes new page ≡ free_page_bytes freed) (part : range new 8 280 ≡ part_bytes after) (from : 2 ≤ page) (below : page < next_page old) where
    rest' : (after.version ≡ given.version) × (after.form ≡ given.form) × (after.entries ≡ given.entries) × (after.next_slot ≡ given.next_slot) × (after.next_page ≡ given.next_page)
        × (after.free_slot ≡ given.free_slot) × (after.free_slots ≡ given.free_slots)
    rest' = page_given_rest given after page freed gives_page

    writable' : IsWritable given
    writable' = slot_given_writable front given slot free writable gives

    after_writable : IsWritable after
    after_writable = page_given_writable given after page freed writable' gives_page

    version' : after.version ≡ front.version
    version' = rest'.0 ∙ rest.0

    form' : after.form ≡ front.form
    form' = rest'.1 ∙ rest.1

    after_says : SaysSuper (page_bytes new 0) after
    after_says = super_written old new front after mark part says version' form' after_writable

    after_front : IsSuper 1 new × (tables_of new ≡ tables_of old)
    after_front = super_kept 1 old new front after half count says after_says version' form' (rest'.2 ∙ rest.2)
        (omega (arith, rest'.3, rest.3, says.next_slot, slots_most)) (omega (arith, rest'.4, rest.4)) (omega (arith, rest'.4, rest.4, says.next_page, given_most)) whole.front

    after_slots : next_slot new ≡ next_slot old
    after_slots = sym after_says.next_slot ∙ rest'.3 ∙ rest.3 ∙ says.next_slot

    after_pages : next_page new ≡ next_page old
    after_pages = sym after_says.next_page ∙ rest'.4 ∙ rest.4 ∙ says.next_page

    after_frees : FreesSlot slot old new
    after_frees = slot_frees old new front given after slot free says after_says gives rest'.5 rest'.6 slot_said

    page_said : free_page_of new page ≡ Some freed
    page_said = page_given_said given after page freed writable' new gives_page page_is

    pub given_page : FreesPage page old new
    given_page = page_frees old new given after after page freed (rest.5 ∙ says.free_page) (rest.6 ∙ says.free_pages) after_says gives_page refl refl page_said

    pub given_both : GivenBack old new slot
    given_both = record {
      front = after_front.0;
      tables = after_front.1;
      version = version_kept old new mark;
      slots = slots_back old new slot whole.slots after_frees after_slots less same_slots;
      pages = pages_back old new page whole.pages given_page after_pages from below (λ x some from' to. ap (free_said 0xFF 4) (kept x some from' to));
      freed = after_frees;
      next_slots = after_slots;
      next_pages = after_pages;
    }
