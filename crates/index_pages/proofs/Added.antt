-- Data in which a slot, a page and the part of the super page were written.
use Rattle.std.proofs.Common.{◌≡◌, ◌≢◌, ℕ, ◌+◌, ◌*◌, ◌/◌, ◌%◌, ◌^◌, ◌<◌, ◌≤◌, inl, inr, List, [], ◌∷◌, length, sym, ◌∙◌, ap, arith}
use Rattle.std.proofs.lemmas.Bool.{cases_lt}
use Rattle.mars_base.specs.Bytes.{range}
use Rattle.array_shape.specs.Logged.{Part, applied, AllFit}
use Rattle.record_slots.specs.Free.{free_slot_bytes}
use Rattle.record_slots.specs.Slots.{slot_bytes}
use Rattle.record_slots.specs.Super.{part_bytes}
use Rattle.record_slots.specs.declared.free.Free.{Free}
use Rattle.record_slots.specs.declared.super_page.Super.{Super}
use Rattle.record_slots.specs.declared.slot.Slot.TheVariants.{Absent}
use Rattle.record_slots.specs.Places.{page_bytes, page_count, slot_at, slot_of}
use Rattle.record_slots.proofs.Freed.{length-free_slot_bytes}
use Rattle.record_slots.proofs.SlotLemmas.{length-slot_bytes}
use Rattle.page_store.specs.Pairs.{Pair, inserted, removed}
use Rattle.page_store.specs.Shown.{address}
use Rattle.index_pages.specs.Adding.{adding_parts}
use Rattle.index_pages.specs.Giving.{removing_parts}
use Rattle.index_pages.specs.Written.{written_page}
use Rattle.record_slots.proofs.ReadingBack.{length-part_bytes}
use Rattle.index_pages.proofs.Puts.{AllApart, Stand, applied_long, applied_away, applied_stand}
use Rattle.index_pages.proofs.Ranges.{Apart}
use Rattle.index_pages.proofs.Removing.{length-removed}
use Rattle.index_pages.proofs.Rising.{length-inserted}
use Rattle.index_pages.proofs.Writing.{length-written_page}

-- the slot, the page and the part say this, and no other page and slot was written
pub record IsOver (old new : List ℕ) (half slot : ℕ) (said : List ℕ) (page : ℕ) (written front : List ℕ) : Type 0 where
  pub size : length new ≡ length old
  pub slot_is : slot_of new slot ≡ said
  pub bytes : page_bytes new page ≡ written
  pub part : range new 8 280 ≡ front
  pub mark : range new 0 8 ≡ range old 0 8
  pub pages : (x : ℕ) → 1 ≤ x → x < half → x ≢ page → page_bytes new x ≡ page_bytes old x
  pub slots : (j : ℕ) → j ≢ slot → slot_of new j ≡ slot_of old j

-- the slot is absent under the key of the table, and the page has the pair
abbrev pub IsAdded : List ℕ → List ℕ → ℕ → Super → ℕ → ℕ → ℕ → List Pair → ℕ → ℕ → Type 0
IsAdded old new half after slot page link pairs table key =
    IsOver old new half slot (slot_bytes (Absent table key)) page (written_page 0 link (inserted pairs key slot)) (part_bytes after)

-- the slot is free, and the page lacks the pair
abbrev pub IsRemoved : List ℕ → List ℕ → ℕ → Super → ℕ → Free → ℕ → ℕ → List Pair → ℕ → Type 0
IsRemoved old new half after slot free page link pairs key = IsOver old new half slot (free_slot_bytes free) page (written_page 0 link (removed pairs key)) (part_bytes after)

module _ (old : List ℕ) (half : ℕ) (size : length old ≡ 512 * (half + half)) (slot page : ℕ) (there : slot < 8 * half) (some : 1 ≤ page) (below : page < half) (said written part : List ℕ)
    (len1 : length said ≡ 64) (len2 : length written ≡ 512) (len3 : length part ≡ 280) where
  parts : List Part
  parts = (address (half + slot / 8) (slot % 8 * 64), said) ∷ (address page 0, written) ∷ (address 0 8, part) ∷ []

  over : List ℕ
  over = applied parts old

  place_is : address (half + slot / 8) (slot % 8 * 64) ≡ 512 * half + 64 * slot
  place_is = omega arith

  fit : AllFit (length old) parts
  unfolding parts
  fit = (omega (arith, len1, size, place_is, there), (omega (arith, len2, size, below), (omega (arith, len3, size, below), tt)))

  apart : AllApart parts
  unfolding parts
  apart = ((inr (omega (arith, len2, place_is, below)), (inr (omega (arith, len3, place_is, below)), tt)), ((inr (omega (arith, len3, some)), tt), (tt, tt)))

  stand : Stand parts over
  unfolding over
  stand = applied_stand parts old fit apart

  over_long : length over ≡ length old
  unfolding over
  over_long = applied_long parts old fit

  over_count : page_count over ≡ half + half
  over_count = omega (arith, over_long, size)

  away : (at n : ℕ) → Apart at n (address (half + slot / 8) (slot % 8 * 64)) (length said) → Apart at n (address page 0) (length written) → Apart at n (address 0 8) (length part)
      → range over at n ≡ range old at n
  unfolding over parts
  away at n a b c = applied_away parts old at n fit (a, (b, (c, tt)))

  slot_new : slot_of over slot ≡ said
  unfolding slot_of parts
  slot_new =
      ap (λ (x : ℕ). range over x 64) (let e : slot_at over slot ≡ address (half + slot / 8) (slot % 8 * 64) = omega (arith, over_count, place_is) in e)
      ∙ ap (λ (n : ℕ). range over (address (half + slot / 8) (slot % 8 * 64)) n) (sym len1) ∙ stand.0

  page_new : page_bytes over page ≡ written
  unfolding page_bytes parts
  page_new = ap (λ (x : ℕ). range over x 512) (let z : 512 * page ≡ address page 0 = omega arith in z) ∙ ap (λ (n : ℕ). range over (address page 0) n) (sym len2) ∙ stand.1.0

  part_new : range over 8 280 ≡ part
  unfolding parts
  part_new = ap (λ (n : ℕ). range over 8 n) (sym len3) ∙ stand.1.1.0

  page_old : (x : ℕ) → 1 ≤ x → x < half → x ≢ page → page_bytes over x ≡ page_bytes old x
  unfolding page_bytes
  page_old x from to other =
      let beside : Apart (512 * x) 512 (address page 0) (length written) = elim (cases_lt x page) [
        | inl before ↦ inl (omega (arith, before))
        | inr after ↦ (let ne : x ≡ page → ⊥ = other in inr (omega (arith, len2, after, ne)))
      ] in
      away (512 * x) 512 (inl (omega (arith, place_is, to))) beside (inr (omega (arith, len3, from)))

  slot_old : (j : ℕ) → j ≢ slot → slot_of over j ≡ slot_of old j
  unfolding slot_of
  slot_old j other =
      let at : slot_at over j ≡ 512 * half + 64 * j = omega (arith, over_count) in
      let at' : slot_at old j ≡ 512 * half + 64 * j = omega (arith, size) in
      let beside : Apart (512 * half + 64 * j) 64 (address (half + slot / 8) (slot % 8 * 64)) (length said) = elim (cases_lt j slot) [
        | inl before ↦ inl (omega (arith, place_is, before))
        | inr behind ↦ (let ne : j ≡ slot → ⊥ = other in inr (omega (arith, place_is, len1, behind, ne)))
      ] in
      ap (λ (x : ℕ). range over x 64) at
      ∙ away (512 * half + 64 * j) 64 beside (inr (omega (arith, len2, below))) (inr (omega (arith, len3, below)))
      ∙ ap (λ (x : ℕ). range old x 64) (sym at')

  pub over_is : IsOver old (applied ((address (half + slot / 8) (slot % 8 * 64), said) ∷ (address page 0, written) ∷ (address 0 8, part) ∷ []) old) half slot said page written part
  unfolding over parts
  over_is = record {
    size = over_long;
    slot_is = slot_new;
    bytes = page_new;
    part = part_new;
    mark = away 0 8 (inl (omega (arith, place_is, below))) (inl (omega (arith, some))) (inl (omega arith));
    pages = page_old;
    slots = slot_old;
  }

-- what is written when a pair is added
pub added_is : (old : List ℕ) (half : ℕ) → length old ≡ 512 * (half + half) → (after : Super) → length after.entries ≡ 256 → (slot page link : ℕ) (pairs : List Pair) (table key : ℕ) → table < 8 → key < 2 ^ 64
    → slot < 8 * half → 1 ≤ page → page < half → link < 2 ^ 32 → length pairs < 30 → IsAdded old (applied (adding_parts half after slot page link pairs table key) old) half after slot page link pairs table key
added_is old half size after entries slot page link pairs table key small fits there some below link_fits room =
    over_is old half size slot page there some below (slot_bytes (Absent table key)) (written_page 0 link (inserted pairs key slot)) (part_bytes after) (length-slot_bytes (Absent table key) (small, fits))
    (length-written_page 0 link (inserted pairs key slot) (omega (arith, length-inserted key slot pairs, room)) link_fits) (length-part_bytes after entries)

-- what is written when a pair is taken out
pub removed_is : (old : List ℕ) (half : ℕ) → length old ≡ 512 * (half + half) → (after : Super) → length after.entries ≡ 256 → (slot : ℕ) (free : Free) (page link : ℕ) (pairs : List Pair) (key : ℕ)
    → slot < 8 * half → 1 ≤ page → page < half → link < 2 ^ 32 → length pairs ≤ 30 → IsRemoved old (applied (removing_parts half after slot free page link pairs key) old) half after slot free page link pairs key
removed_is old half size after entries slot free page link pairs key there some below link_fits few =
    over_is old half size slot page there some below (free_slot_bytes free) (written_page 0 link (removed pairs key)) (part_bytes after) (length-free_slot_bytes free)
    (length-written_page 0 link (removed pairs key) (omega (arith, (length-removed key pairs).1, few)) link_fits) (length-part_bytes after entries)
