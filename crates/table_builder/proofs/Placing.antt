-- Slots of a plan, and the rows that lie in them.
use Rattle.std.proofs.Common.{◌≡◌, ℕ, zero, suc, ◌+◌, ◌-◌, ◌*◌, ◌/◌, ◌%◌, ◌<◌, ◌≤◌, List, [], ◌∷◌, ◌++◌, length, map, take, drop, replicate, refl, sym, ◌∙◌, ap, append_assoc, arith}
use Rattle.std.specs.Prelude.{Some, slice_get}
use Rattle.std.proofs.lemmas.List.{take-take, drop-drop, drop-take, length-append, take_at, drop_at}
use Rattle.mars_base.specs.Bytes.{range}
use Rattle.record_slots.specs.Slots.{IsSlot, slot_bytes}
use Rattle.record_slots.specs.Places.{page_bytes, slot_count, slot_of}
use Rattle.record_slots.specs.declared.slot.Slot.{Slot}
use Rattle.record_slots.specs.declared.slot.Slot.TheVariants.{Present}
use Rattle.record_slots.proofs.SlotLemmas.{length-slot_bytes}
use Rattle.history.specs.Rows.{NamedRows}
use Rattle.history.specs.Writes.{Row}
use Rattle.table_builder.specs.Image.{AreRows, AreInSlots}
use Rattle.table_builder.specs.Plan.{AreSorted, rows_count, slots_from, slots_bytes, slots_page}
use Rattle.table_builder.proofs.Imaging.{rows_bounds}
use Rattle.table_builder.proofs.Planning.{get_left, get_right}

-- the slots of the rows of one table
abbrev pub slots_for : ℕ → List Row → List Slot
slots_for number rows = map (λ (row : Row). Present number row.0 row.1) rows

pub length-slots_for : (number : ℕ) (rows : List Row) → length (slots_for number rows) ≡ length rows
length-slots_for number [] = refl
length-slots_for number (row ∷ rows) = ap suc (length-slots_for number rows)

pub length-slots_from : (number : ℕ) (tables : List NamedRows) → length (slots_from number tables) ≡ rows_count tables
length-slots_from number [] = refl
length-slots_from number (table ∷ tables) =
    omega (arith, length-append (slots_for number table.1) (slots_from (suc number) tables), length-slots_for number table.1, length-slots_from (suc number) tables)

-- what can be written as slots
abbrev pub AreSlots : List Slot → Type 0
AreSlots [] = Unit {0}
AreSlots (slot ∷ slots) = IsSlot slot × AreSlots slots

rows_slots : (number low : ℕ) (rows : List Row) (more : List Slot) → number < 8 → AreRows low rows → AreSlots more → AreSlots (slots_for number rows ++ more)
rows_slots number low [] more few are rest = rest
rows_slots number low (row ∷ rows) more few are rest =
    let h = rows_bounds (suc row.0) rows are.2 in ((few, omega (arith, h), are.1), rows_slots number (suc row.0) rows more few are.2 rest)

pub all_slots : (number : ℕ) (tables : List NamedRows) → number + length tables ≤ 8 → AreSorted tables → AreSlots (slots_from number tables)
all_slots number [] few sorted = tt
all_slots number (table ∷ tables) few sorted =
    rows_slots number 0 table.1 (slots_from (suc number) tables) (omega (arith, few)) sorted.1 (all_slots (suc number) tables (omega (arith, few)) sorted.2)

slots_drop : (n : ℕ) (slots : List Slot) → AreSlots slots → AreSlots (drop n slots)
slots_drop zero slots are = are
slots_drop (suc n) [] are = are
slots_drop (suc n) (slot ∷ slots) are = slots_drop n slots are.1

slots_take : (n : ℕ) (slots : List Slot) → AreSlots slots → AreSlots (take n slots)
slots_take zero slots are = tt
slots_take (suc n) [] are = are
slots_take (suc n) (slot ∷ slots) are = (are.0, slots_take n slots are.1)

-- ---- a slot in its page

-- a range within a range
range_within : (bytes : List ℕ) (at a n m : ℕ) → a + n ≤ m → range (range bytes at m) a n ≡ range bytes (at + a) n
range_within bytes at a n m le =
    ap (λ (l : ℕ). take n (drop a (take l (drop at bytes)))) (let e : m ≡ a + (m - a) = omega arith in e)
    ∙ ap (take n) (drop-take a (m - a) (drop at bytes)) ∙ take-take n (m - a) (drop a (drop at bytes)) (omega arith) ∙ ap (take n) (drop-drop a at bytes)

-- what a page of slots says of one of them
slot_read : (bytes : List ℕ) (half slot : ℕ) → length bytes ≡ 512 * (half + half) → slot_of bytes slot ≡ range (page_bytes bytes (half + slot / 8)) (64 * (slot % 8)) 64
unfolding slot_of page_bytes
slot_read bytes half slot long =
    ap (λ (m : ℕ). range bytes m 64) (let e : 64 * (slot_count bytes + slot) ≡ 512 * (half + slot / 8) + 64 * (slot % 8) = omega (arith, long) in e)
    ∙ sym (range_within bytes (512 * (half + slot / 8)) (64 * (slot % 8)) 64 512 (omega arith))

-- one of the slots as bytes
slot_range : (j : ℕ) (slots : List Slot) (slot : Slot) (tail : List ℕ) → AreSlots slots → slice_get slots j ≡ Some slot → range (slots_bytes slots ++ tail) (64 * j) 64 ≡ slot_bytes slot
slot_range j [] slot tail are is = absurd (cc)
slot_range zero (s ∷ slots) slot tail are is =
    let same : s ≡ slot = cc in
    ap (take 64) (append_assoc (slot_bytes s) (slots_bytes slots) tail) ∙ take_at (slot_bytes s) (slots_bytes slots ++ tail) 64 (length-slot_bytes s are.0) ∙ ap slot_bytes same
slot_range (suc j) (s ∷ slots) slot tail are is =
    ap (λ (n : ℕ). take 64 (drop n ((slot_bytes s ++ slots_bytes slots) ++ tail))) (let e : 64 * suc j ≡ 64 + 64 * j = omega arith in e)
    ∙ ap (take 64) (sym (drop-drop (64 * j) 64 ((slot_bytes s ++ slots_bytes slots) ++ tail)))
    ∙ ap (λ (l : List ℕ). take 64 (drop (64 * j) (drop 64 l))) (append_assoc (slot_bytes s) (slots_bytes slots) tail)
    ∙ ap (λ (l : List ℕ). take 64 (drop (64 * j) l)) (drop_at (slot_bytes s) (slots_bytes slots ++ tail) 64 (length-slot_bytes s are.0))
    ∙ slot_range j slots slot tail are.1 is

pub get_drop : {X : Type 0} (xs : List X) (n j : ℕ) → slice_get (drop n xs) j ≡ slice_get xs (n + j)
get_drop xs zero j = ap (slice_get xs) (let e : j ≡ 0 + j = omega arith in e)
get_drop [] (suc n) j = refl
get_drop (x ∷ xs) (suc n) j = get_drop xs n j ∙ ap (slice_get (x ∷ xs)) (let e : suc (n + j) ≡ suc n + j = omega arith in e)

get_take : {X : Type 0} (xs : List X) (n j : ℕ) → j < n → slice_get (take n xs) j ≡ slice_get xs j
get_take xs zero j lt = absurd (omega (arith, lt))
get_take [] (suc n) j lt = refl
get_take (x ∷ xs) (suc n) zero lt = refl
get_take (x ∷ xs) (suc n) (suc j) lt = get_take xs n j (omega (arith, lt))

-- ---- slots side by side

-- the slots from one on are these
abbrev pub AreSlotsAt : List ℕ → ℕ → List Slot → Type 0
AreSlotsAt bytes from slots = (k : ℕ) (slot : Slot) → slice_get slots k ≡ Some slot → slot_of bytes (from + k) ≡ slot_bytes slot

module _ (bytes : List ℕ) where
  pub in_slots : (number slot : ℕ) (rows : List Row) → AreSlotsAt bytes slot (slots_for number rows) → AreInSlots bytes number slot rows
  in_slots number slot [] at = tt
  in_slots number slot (row ∷ rows) at = (
    ap (slot_of bytes) (let e : slot ≡ slot + 0 = omega arith in e) ∙ at 0 (Present number row.0 row.1) refl,
    in_slots number (suc slot) rows (λ k s is. ap (slot_of bytes) (let e : suc slot + k ≡ slot + suc k = omega arith in e) ∙ at (suc k) s is),
  )

  pub slots_before : (from : ℕ) (xs ys : List Slot) → AreSlotsAt bytes from (xs ++ ys) → AreSlotsAt bytes from xs
  slots_before from xs ys at = λ k s is. at k s (get_left xs ys k s is)

  pub slots_behind : (from next : ℕ) (xs ys : List Slot) → next ≡ from + length xs → AreSlotsAt bytes from (xs ++ ys) → AreSlotsAt bytes next ys
  slots_behind from next xs ys sum at =
      λ k s is. ap (slot_of bytes) (let e : next + k ≡ from + (length xs + k) = omega (arith, sum) in e) ∙ at (length xs + k) s (get_right xs ys k ∙ is)

module _ (bytes : List ℕ) (half : ℕ) (tables : List NamedRows) (long : length bytes ≡ 512 * (half + half)) (are : AreSlots (slots_from 0 tables)) (few : rows_count tables ≤ 8 * half)
    (pages : (k : ℕ) → k < half → page_bytes bytes (half + k) ≡ slots_page tables k) where
  abbrev all : List Slot
  all = slots_from 0 tables

  within : (xs : List Slot) (k : ℕ) (s : Slot) → slice_get xs k ≡ Some s → k < length xs
  within [] k s is = absurd (cc)
  within (x ∷ xs) zero s is = omega arith
  within (x ∷ xs) (suc k) s is = let h = within xs k s is in omega (arith, h)

  slot_there : (slot : ℕ) (s : Slot) → slice_get (slots_from 0 tables) slot ≡ Some s → slot_of bytes slot ≡ slot_bytes s
  unfolding slots_page
  slot_there slot s is =
      let lt : slot < 8 * half = (let h = within (slots_from 0 tables) slot s is in omega (arith, h, length-slots_from 0 tables, few)) in
      let there : slice_get (take 8 (drop (8 * (slot / 8)) (slots_from 0 tables))) (slot % 8) ≡ Some s =
      get_take (drop (8 * (slot / 8)) (slots_from 0 tables)) 8 (slot % 8) (omega arith) ∙ get_drop (slots_from 0 tables) (8 * (slot / 8)) (slot % 8)
      ∙ ap (slice_get (slots_from 0 tables)) (let e : 8 * (slot / 8) + slot % 8 ≡ slot = omega arith in e) ∙ is in
      slot_read bytes half slot long
      ∙ ap (λ (b : List ℕ). range b (64 * (slot % 8)) 64) (pages (slot / 8) (omega (arith, lt)))
      ∙ slot_range (slot % 8) (take 8 (drop (8 * (slot / 8)) (slots_from 0 tables))) s (replicate (512 - length (slots_bytes (take 8 (drop (8 * (slot / 8)) (slots_from 0 tables))))) 0)
      (slots_take 8 (drop (8 * (slot / 8)) (slots_from 0 tables)) (slots_drop (8 * (slot / 8)) (slots_from 0 tables) are)) there

  pub all_there : AreSlotsAt bytes 0 (slots_from 0 tables)
  all_there = λ k s is. ap (slot_of bytes) (let e : 0 + k ≡ k = omega arith in e) ∙ slot_there k s is
