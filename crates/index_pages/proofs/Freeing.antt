-- A removal that also frees the slot of the pair.
use Rattle.std.proofs.Common.{◌≡◌, ◌≢◌, ℕ, ◌+◌, ◌*◌, ◌/◌, ◌<◌, ◌≤◌, true, false, nat_eq, inl, inr, List, [], ◌∷◌, length, drop, Option, Some, None, sym, ◌∙◌, ap, subst, arith}
use Rattle.std.proofs.lemmas.Bool.{cases_lt}
use Rattle.std.proofs.lemmas.Bool.Decides.{eqb_tells}
use Rattle.std.proofs.lemmas.List.{length-take-le, length-drop}
use Rattle.mars_base.specs.Bytes.{put, range}
use Rattle.mars_base.proofs.Puts.{length-put}
use Rattle.record_slots.specs.declared.slot.Slot.{Slot}
use Rattle.record_slots.specs.declared.slot.Slot.TheVariants.{Absent, Present}
use Rattle.record_slots.specs.Slots.{slot_said}
use Rattle.record_slots.specs.Super.{next_said}
use Rattle.record_slots.specs.Places.{page_bytes, page_count, first_slot_page, slot_at, slot_of, next_slot, next_page, IsOfKey, Carries, AreGiven}
use Rattle.index_pages.proofs.Owned.{carries_table}
use Rattle.index_pages.proofs.Ranges.{Apart, range_away, range_here}
use Rattle.index_pages.specs.Ways.{Keeps, KeepsBut}
use Rattle.page_store.specs.Pairs.{Pair, found}
use Rattle.page_store.specs.Index.{HasCounts}

-- a slot carries one key
pub one_key : (slot : Option Slot) (table a b : ℕ) → IsOfKey table a slot → IsOfKey table b slot → a ≡ b
one_key None table a b x y = absurd x
one_key (Some (Absent j k)) table a b x y = sym x.1 ∙ y.1
one_key (Some (Present j k value)) table a b x y = sym x.1 ∙ y.1

pub carries_one : (bytes : List ℕ) (table a b slot : ℕ) → Carries bytes table (a, slot) → Carries bytes table (b, slot) → a ≡ b
unfolding Carries
carries_one bytes table a b slot x y = one_key (slot_said (slot_of bytes slot)) table a b x y

pub found_given : (bytes : List ℕ) (table key slot : ℕ) (ps : List Pair) → found ps key ≡ Some slot → AreGiven bytes table ps → (slot < next_slot bytes) × Carries bytes table (key, slot)
found_given bytes table key slot [] is g = absurd (cc)
found_given bytes table key slot (p ∷ ps) is g =
    elim (eqb_tells p.0 key) [
      | inl h ↦
          let e : nat_eq p.0 key ≡ true = h.0 in
          let is' = rw e at is in
          let to : p.1 ≡ slot = cc in
          let here : Carries bytes table (p.0, p.1) = g.1 in
          (subst (λ (s : ℕ). s < next_slot bytes) to g.0, subst (λ (s : ℕ). Carries bytes table (key, s)) to (subst (λ (k : ℕ). Carries bytes table (k, p.1)) h.1 here))
      | inr h ↦ let e : nat_eq p.0 key ≡ false = h.0 in let is' = rw e at is in found_given bytes table key slot ps is' g.2
    ]

module _ (slot : ℕ) (old new : List ℕ) (keeps : KeepsBut slot old new) where
  -- the slots of pairs of other keys
  pub given_others : (table key : ℕ) (ps : List Pair) → Carries old table (key, slot) → found ps key ≡ None → AreGiven old table ps → AreGiven new table ps
  given_others table key [] carries none g = tt
  given_others table key (p ∷ ps) carries none g =
      elim (eqb_tells p.0 key) [
        | inl h ↦ let e : nat_eq p.0 key ≡ true = h.0 in let bad = rw e at none in absurd (cc)
        | inr h ↦
            let e : nat_eq p.0 key ≡ false = h.0 in
            let none' = rw e at none in
            let here : Carries old table (p.0, p.1) = g.1 in
            let other : p.1 ≢ slot = λ same. h.1 (carries_one old table p.0 key slot (subst (λ (s : ℕ). Carries old table (p.0, s)) same here) carries) in
            (omega (arith, g.0, keeps.slots), keeps.carried table p other g.0 g.1, given_others table key ps carries none' g.2)
      ]

  -- the slots of pairs of another table
  pub given_elsewhere : (table other key : ℕ) (ps : List Pair) → (other ≡ table → ⊥) → Carries old table (key, slot) → AreGiven old other ps → AreGiven new other ps
  given_elsewhere table other key [] differ carries g = tt
  given_elsewhere table other key (p ∷ ps) differ carries g =
      let here : Carries old other (p.0, p.1) = g.1 in
      let apart : p.1 ≢ slot = λ same. differ (carries_table old other table p.0 key slot (subst (λ (s : ℕ). Carries old other (p.0, s)) same here) carries) in
      (omega (arith, g.0, keeps.slots), keeps.carried other p apart g.0 g.1, given_elsewhere table other key ps differ carries g.2)

  module _ (front : HasCounts old) (less : slot < next_slot old) where
    -- the new data with the slot as it was
    pub with_slot : List ℕ
    with_slot = put new (slot_at old slot) (slot_of old slot)

    count : page_count new ≡ page_count old
    count = ap (λ (n : ℕ). n / 512) keeps.size

    within : slot_at old slot + 64 ≤ length old
    within = omega (arith, less, front.slots)

    sixty_four : length (slot_of old slot) ≡ 64
    unfolding slot_of
    sixty_four = length-take-le 64 (drop (slot_at old slot) old) (omega (arith, length-drop (slot_at old slot) old, within))

    fits : slot_at old slot + length (slot_of old slot) ≤ length new
    fits = omega (arith, within, sixty_four, keeps.size)

    pub with_size : length with_slot ≡ length new
    unfolding with_slot
    with_size = length-put new (slot_at old slot) (slot_of old slot) fits

    pub with_page : (x : ℕ) → x < first_slot_page old → page_bytes with_slot x ≡ page_bytes new x
    unfolding page_bytes with_slot
    with_page x lt = range_away new (slot_at old slot) (slot_of old slot) (512 * x) 512 fits (inl (omega (arith, lt)))

    with_here : slot_of with_slot slot ≡ slot_of old slot
    unfolding slot_of with_slot
    with_here =
        let at : slot_at with_slot slot ≡ slot_at old slot = ap (λ (n : ℕ). 64 * (4 * n + slot)) (ap (λ (n : ℕ). n / 512) with_size ∙ count) in
        ap (λ (a : ℕ). range with_slot a 64) at ∙ range_here new (slot_at old slot) (slot_of old slot) 64 (sym sixty_four) fits

    with_other : (j : ℕ) → j ≢ slot → slot_of with_slot j ≡ slot_of new j
    unfolding slot_of with_slot
    with_other j other =
        let at : slot_at with_slot j ≡ slot_at new j = ap (λ (n : ℕ). 64 * (4 * n + j)) (ap (λ (n : ℕ). n / 512) with_size) in
        let same : slot_at new j ≡ 64 * (4 * page_count old + j) = ap (λ (n : ℕ). 64 * (4 * n + j)) count in
        let apart : Apart (slot_at new j) 64 (slot_at old slot) (length (slot_of old slot)) =
        elim (cases_lt j slot) [ inl below ↦ inl (omega (arith, same)) | inr above ↦ inr (omega (arith, same, sixty_four, other)) ] in
        ap (λ (a : ℕ). range with_slot a 64) at ∙ range_away new (slot_at old slot) (slot_of old slot) (slot_at new j) 64 fits apart

    zero_page : page_bytes with_slot 0 ≡ page_bytes new 0
    zero_page = with_page 0 (omega (arith, front.some, front.pages))

    pub with_next : next_page with_slot ≡ next_page new
    with_next = ap (next_said 12) zero_page

    pub with_keeps : Keeps old with_slot
    unfolding Carries
    with_keeps = record {
      pages = omega (arith, with_next, keeps.pages);
      slots = (let e : next_slot with_slot ≡ next_slot new = ap (next_said 8) zero_page in omega (arith, e, keeps.slots));
      carried = λ table p given carries. elim (eqb_tells p.1 slot) [
        | inl h ↦
            let same : slot_of with_slot p.1 ≡ slot_of old p.1 = ap (slot_of with_slot) h.1 ∙ with_here ∙ ap (slot_of old) (sym h.1) in
            subst (λ (b : List ℕ). IsOfKey table p.0 (slot_said b)) (sym same) carries
        | inr h ↦ subst (λ (b : List ℕ). IsOfKey table p.0 (slot_said b)) (sym (with_other p.1 h.1)) (keeps.carried table p h.1 given carries)
      ];
    }
