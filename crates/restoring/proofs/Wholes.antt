-- Each page of a plan that can be made has 512 bytes.
use Rattle.std.proofs.Common.{◌≡◌, ℕ, zero, suc, ◌+◌, ◌-◌, ◌*◌, ◌^◌, ◌<◌, ◌≤◌, Bool, true, false, cond, inl, inr, List, [], ◌∷◌, ◌++◌, length, map, take, drop, replicate, nat_le, nat_lt, refl, sym, ◌∙◌, ap, subst, arith}
use Rattle.std.specs.Prelude.{slice_get}
use Rattle.std.specs.Option.{unwrap_or}
use Rattle.std.proofs.lemmas.Bool.Decides.{leb_tells}
use Rattle.std.proofs.lemmas.List.{length-append, length-replicate}
use Rattle.record_slots.specs.Slots.{IsSlot, slot_bytes}
use Rattle.record_slots.specs.declared.slot.Slot.{Slot}
use Rattle.record_slots.proofs.ReadingBack.{length-super_bytes}
use Rattle.record_slots.proofs.SlotLemmas.{length-slot_bytes}
use Rattle.history.specs.Rows.{NamedRows}
use Rattle.page_store.specs.Pairs.{Pair}
use Rattle.index_pages.specs.Written.{written_page}
use Rattle.index_pages.proofs.Writing.{length-written_page}
use Rattle.table_builder.specs.Built.{AreFilled, Level, named}
use Rattle.table_builder.specs.Image.{Built, pairs_for}
use Rattle.table_builder.specs.Plan.{CanMake, Plan, below_bytes, built_for, built_from, front_for, index_for, level_bytes, levels_for, levels_of, pages_of, planned_page, roots_bytes, rows_count, slots_bytes, slots_from, slots_page, top_of}
use Rattle.table_builder.proofs.Building.{length-named}
use Rattle.table_builder.proofs.Entering.{length-entries_for}
use Rattle.table_builder.proofs.Making.{length-pairs_for}
use Rattle.table_builder.proofs.Placing.{AreSlots, all_slots}
use Rattle.table_builder.proofs.Planning.{bound, pages_few, pages_filled}

-- all have 512 bytes
abbrev AreWhole : List (List ℕ) → Type 0
AreWhole [] = Unit {0}
AreWhole (page ∷ pages) = (length page ≡ 512) × AreWhole pages

whole-append : (xs ys : List (List ℕ)) → AreWhole xs → AreWhole ys → AreWhole (xs ++ ys)
whole-append [] ys one two = two
whole-append (x ∷ xs) ys one two = (one.0, whole-append xs ys one.1 two)

whole_at : (xs : List (List ℕ)) (n : ℕ) → AreWhole xs → length (unwrap_or (slice_get xs n) (replicate 512 0)) ≡ 512
whole_at [] n are = length-replicate {A = ℕ} 512 0
whole_at (x ∷ xs) zero are = are.0
whole_at (x ∷ xs) (suc n) are = whole_at xs n are.1

either : (b : Bool) (x y : List ℕ) → length x ≡ 512 → length y ≡ 512 → length (cond b x y) ≡ 512
either true x y one two = one
either false x y one two = two

-- ---- pages of the index

level_whole : (level : ℕ) (pages : Level) → AreFilled pages → AreWhole (map (written_page level 0) pages)
level_whole level [] filled = tt
level_whole level (page ∷ pages) filled = (length-written_page level 0 page filled.1 (omega arith), level_whole level pages filled.2)

module _ (fill : ℕ) (some : 15 ≤ fill) (most : fill ≤ 30) where
  abbrev later : ℕ → ℕ → List Pair → List Level
  later n first pairs = levels_of fill n (first + length (pages_of fill pairs)) (named 0 first (pages_of fill pairs))

  abbrev levels_if : ℕ → ℕ → List Pair → Bool → List Level
  levels_if n first pairs c = cond c [] (pages_of fill pairs ∷ later n first pairs)

  levels_whole : (n level first : ℕ) (pairs : List Pair) → AreWhole (level_bytes level (levels_of fill n first pairs))
  levels_whole zero level first pairs = tt
  levels_whole (suc n) level first pairs = elim (leb_tells (length pairs) 30) [
    | inl h ↦ let b : nat_le (length pairs) 30 ≡ true = h.0 in subst (λ (c : Bool). AreWhole (level_bytes level (levels_if n first pairs c))) (sym b) tt
    | inr h ↦
        let b : nat_le (length pairs) 30 ≡ false = h.0 in
        subst (λ (c : Bool). AreWhole (level_bytes level (levels_if n first pairs c))) (sym b)
        (whole-append (map (written_page level 0) (pages_of fill pairs)) (level_bytes (suc level) (later n first pairs))
        (level_whole level (pages_of fill pairs) (pages_filled fill some most pairs (omega (arith, h.1))))
        (levels_whole n (suc level) (first + length (pages_of fill pairs)) (named 0 first (pages_of fill pairs))))
  ]

  top_few : (n first : ℕ) (pairs : List Pair) → length pairs ≤ bound n → length (top_of first pairs (levels_of fill n first pairs)) ≤ 30
  top_few zero first pairs few = few
  top_few (suc n) first pairs few = elim (leb_tells (length pairs) 30) [
    | inl h ↦ let b : nat_le (length pairs) 30 ≡ true = h.0 in subst (λ (c : Bool). length (top_of first pairs (levels_if n first pairs c)) ≤ 30) (sym b) h.1
    | inr h ↦
        let b : nat_le (length pairs) 30 ≡ false = h.0 in
        subst (λ (c : Bool). length (top_of first pairs (levels_if n first pairs c)) ≤ 30) (sym b)
        (top_few n (first + length (pages_of fill pairs)) (named 0 first (pages_of fill pairs))
        (omega (arith, length-named 0 first (pages_of fill pairs), pages_few fill some most pairs (omega (arith, h.1)), few)))
  ]

  roots_whole : (root slot first : ℕ) (tables : List NamedRows) → rows_count tables ≤ 2 ^ 32 → AreWhole (roots_bytes slot (built_from fill root slot first tables))
  unfolding levels_for
  roots_whole root slot first [] few = tt
  roots_whole root slot first (table ∷ tables) few =
      let pairs = pairs_for slot table.1 in
      let levels = levels_of fill 7 first (pairs_for slot table.1) in (
        length-written_page (length (levels_of fill 7 first (pairs_for slot table.1))) 0 (top_of first (pairs_for slot table.1) (levels_of fill 7 first (pairs_for slot table.1)))
            (top_few 7 first (pairs_for slot table.1) (omega (arith, length-pairs_for slot table.1, few))) (omega arith),
        roots_whole (suc root) (slot + length table.1) (first + length (level_bytes 0 (levels_of fill 7 first (pairs_for slot table.1)))) tables (omega (arith, few)),
      )

  below_whole : (root slot first : ℕ) (tables : List NamedRows) → AreWhole (below_bytes (built_from fill root slot first tables))
  unfolding levels_for
  below_whole root slot first [] = tt
  below_whole root slot first (table ∷ tables) =
      whole-append (level_bytes 0 (levels_of fill 7 first (pairs_for slot table.1)))
      (below_bytes (built_from fill (suc root) (slot + length table.1) (first + length (level_bytes 0 (levels_of fill 7 first (pairs_for slot table.1)))) tables))
      (levels_whole 7 0 first (pairs_for slot table.1))
      (below_whole (suc root) (slot + length table.1) (first + length (level_bytes 0 (levels_of fill 7 first (pairs_for slot table.1)))) tables)

-- ---- pages of slots

slots_drop : (n : ℕ) (slots : List Slot) → AreSlots slots → AreSlots (drop n slots)
slots_drop zero slots are = are
slots_drop (suc n) [] are = are
slots_drop (suc n) (slot ∷ slots) are = slots_drop n slots are.1

some_short : (n : ℕ) (slots : List Slot) → AreSlots slots → length (slots_bytes (take n slots)) ≤ 64 * n
some_short zero slots are = omega arith
some_short (suc n) [] are = omega arith
some_short (suc n) (slot ∷ slots) are =
    omega (arith, length-append (slot_bytes slot) (slots_bytes (take n slots)), length-slot_bytes slot are.0, some_short n slots are.1)

slots_whole : (tables : List NamedRows) (k : ℕ) → AreSlots (slots_from 0 tables) → length (slots_page tables k) ≡ 512
unfolding slots_page
slots_whole tables k are =
    let bytes = slots_bytes (take 8 (drop (8 * k) (slots_from 0 tables))) in
    let short = some_short 8 (drop (8 * k) (slots_from 0 tables)) (slots_drop (8 * k) (slots_from 0 tables) are) in
    omega (
      arith,
      short,
      length-append (slots_bytes (take 8 (drop (8 * k) (slots_from 0 tables)))) (replicate (512 - length (slots_bytes (take 8 (drop (8 * k) (slots_from 0 tables))))) 0),
      length-replicate {A = ℕ} (512 - length (slots_bytes (take 8 (drop (8 * k) (slots_from 0 tables))))) 0,
    )

-- ---- pages of a plan

module _ (plan : Plan) (can : CanMake plan) where
  index_whole : AreWhole (index_for plan.fill plan.tables)
  unfolding index_for built_for
  index_whole = (
    length-super_bytes (front_for plan.tables (suc (length plan.tables) + length (below_bytes (built_from plan.fill 1 0 (suc (length plan.tables)) plan.tables)))) (length-entries_for plan.tables can.few can.sorted),
    whole-append (roots_bytes 0 (built_from plan.fill 1 0 (suc (length plan.tables)) plan.tables)) (below_bytes (built_from plan.fill 1 0 (suc (length plan.tables)) plan.tables))
        (roots_whole plan.fill can.some can.most 1 0 (suc (length plan.tables)) plan.tables (omega (arith, can.room.slots, can.small)))
        (below_whole plan.fill can.some can.most 1 0 (suc (length plan.tables)) plan.tables),
  )

  pub pages_whole : (page : ℕ) → length (planned_page plan page) ≡ 512
  pages_whole page =
      either (nat_lt page plan.half) (unwrap_or (slice_get (index_for plan.fill plan.tables) page) (replicate 512 0)) (slots_page plan.tables (page - plan.half))
      (whole_at (index_for plan.fill plan.tables) page index_whole)
      (slots_whole plan.tables (page - plan.half) (all_slots 0 plan.tables (omega (arith, can.few)) can.sorted))
