-- A write of a slot to a log is a write to the list of writes.
use Rattle.std.proofs.Common.{◌≡◌, ◌≢◌, ℕ, zero, suc, ◌+◌, ◌<◌, Bool, true, false, cond, ◌&&◌, ◌||◌, not, inl, inr, List, [], ◌∷◌, length, drop, refl, sym, ◌∙◌, ap, arith}
use Rattle.std.specs.Prelude.{nat_eq, nat_lt, is_some, Option, Some, None}
use Rattle.std.specs.Option.{option_map}
use Rattle.std.specs.List.{list_any}
use Rattle.std.proofs.lemmas.Bool.{cases_Bool, eq-eqb, ne_eqb, and_parts, eqb-true, ltb-true}
use Rattle.std.proofs.lemmas.Option.{same_Some}
use Rattle.array_shape.specs.Logged.{Part, ranges_of}
use Rattle.record_slots.specs.Slots.{slot_said}
use Rattle.record_slots.specs.Places.{slot_at}
use Rattle.history.specs.Writes.{Write, is_of, replaced}
use Rattle.page_store.specs.Edit.{meet, meets_none, is_same, edit_pos, written_at, with_write}
use Rattle.page_store.specs.Index.{Index}
use Rattle.history.proofs.Keys.{cases_key, same_key, other_key}
use Rattle.page_store.proofs.Edit.{written_later}
use Rattle.page_store.proofs.Parts.{put_whole}
use Rattle.page_store.proofs.Writes.{write_ind}
use Rattle.history.specs.Writes as table
use Rattle.record_table.specs.Shown.{found_key, write_said, write_of, writes_of, pairs_of}
use Rattle.record_table.specs.Invariant.{IsSlotPart, AreSlotParts}
use Rattle.record_table.proofs.Sharing.{Laws}
use Rattle.record_table.proofs.SlotParts.{one_slot}

both_false : (a b : Bool) → (a ≡ true → b ≡ true → ⊥) → (a && b) ≡ false
both_false true true never = absurd (never refl refl)
both_false true false never = refl
both_false false b never = refl

not_or : (a b : Bool) → not (a || b) ≡ (not a && not b)
not_or true b = refl
not_or false b = refl

one_or_other : (m any : Bool) → cond (m && not any) true any ≡ (m || any)
one_or_other true true = refl
one_or_other true false = refl
one_or_other false any = refl

some_map : (b : Bool) (o : Option ℕ) → is_some (cond b (Some 0) (option_map suc o)) ≡ cond b true (is_some o)
some_map true o = refl
some_map false None = refl
some_map false (Some k) = refl

some_more : (o : Option ℕ) → is_some (option_map suc o) ≡ is_some o
some_more None = refl
some_more (Some k) = refl

module _ (index : Index) (laws : Laws index) (d : List ℕ) (sound : index.sound d) (new : Part) (is : IsSlotPart index d new) where
  -- the range of the write, and whether it equals another's
  r : ℕ × ℕ
  r = (new.0, length new.1)

  same_place : (p : Part) → IsSlotPart index d p → (write_of d p).0 ≡ (write_of d new).0 → (p.0 ≡ new.0) × (length p.1 ≡ length new.1)
  same_place p at key =
      let slot : at.slot ≡ is.slot = same_Some at.slot is.slot (sym at.named ∙ ap (found_key (pairs_of index d)) key ∙ is.named) in
      (at.place ∙ ap (slot_at d) slot ∙ sym is.place, at.size ∙ sym is.size)

  other_place : (p : Part) (at : IsSlotPart index d p) → (write_of d p).0 ≢ (write_of d new).0 → at.slot ≢ is.slot
  other_place p at ne e = ne (one_slot index laws d sound (write_of d p).0 (write_of d new).0 is.slot (at.named ∙ ap Some e) is.named)

  is_same_is : (p : Part) → IsSlotPart index d p → is_same (new.0, length new.1) (p.0, length p.1) ≡ is_of (write_of d new).0 (write_of d p)
  is_same_is p at = elim (cases_key (write_of d p).0 (write_of d new).0) [
    | inl key ↦
        let place = same_place p at key in
        (λ i. eq-eqb new.0 p.0 (sym place.0) i && eq-eqb (length new.1) (length p.1) (sym place.1) i) ∙ sym (same_key (write_of d p).0 (write_of d new).0 key)
    | inr ne ↦
        let other = other_place p at ne in
        ap (λ (b : Bool). b && nat_eq (length new.1) (length p.1)) (ne_eqb new.0 p.0 (λ e. other (same_slot at.slot is.slot (sym at.place ∙ sym e ∙ is.place)))) ∙ sym (other_key (write_of d p).0 (write_of d new).0 ne)
  ]
    where
      same_slot : (a b : ℕ) → slot_at d a ≡ slot_at d b → a ≡ b
      same_slot a b e = omega (arith, e)

  meet_is : (p : Part) → IsSlotPart index d p → meet (new.0, length new.1) (p.0, length p.1) ≡ is_of (write_of d new).0 (write_of d p)
  meet_is p at = elim (cases_key (write_of d p).0 (write_of d new).0) [
    | inl key ↦
        let place = same_place p at key in
        (λ i. lt_true new.0 (p.0 + length p.1) (omega (arith, place.0, place.1, is.size)) i && lt_true p.0 (new.0 + length new.1) (omega (arith, place.0, is.size)) i) ∙ sym (same_key (write_of d p).0 (write_of d new).0 key)
    | inr ne ↦
        let other = other_place p at ne in
        both_false (nat_lt new.0 (p.0 + length p.1)) (nat_lt p.0 (new.0 + length new.1))
        (λ a b. apart at.slot is.slot other (omega (arith, at.place, at.size, is.place, is.size, ltb-true new.0 (p.0 + length p.1) a)) (omega (arith, at.place, at.size, is.place, is.size, ltb-true p.0 (new.0 + length new.1) b)))
        ∙ sym (other_key (write_of d p).0 (write_of d new).0 ne)
  ]
    where
      lt_true : (a b : ℕ) → a < b → nat_lt a b ≡ true
      lt_true a b lt = grind arith

      apart : (a b : ℕ) → a ≢ b → slot_at d b < slot_at d a + 64 → slot_at d a < slot_at d b + 64 → ⊥
      apart a b ne x y = ne (omega (arith, x, y))

  none_is : (ps : List Part) → AreSlotParts index d ps → meets_none (new.0, length new.1) (ranges_of ps) ≡ not (list_any (is_of (write_of d new).0) (writes_of d ps))
  none_is [] parts = refl
  none_is (p ∷ ps) parts =
      (λ i. not (meet_is p parts.0 i) && none_is ps parts.1 i) ∙ sym (not_or (is_of (write_of d new).0 (write_of d p)) (list_any (is_of (write_of d new).0) (writes_of d ps)))

  last_is : (p : Part) (ps : List Part) → AreSlotParts index d (p ∷ ps)
      → (is_same (new.0, length new.1) (p.0, length p.1) && meets_none (new.0, length new.1) (ranges_of ps)) ≡ (is_of (write_of d new).0 (write_of d p) && not (list_any (is_of (write_of d new).0) (writes_of d ps)))
  last_is p ps parts = λ i. is_same_is p parts.0 i && none_is ps parts.1 i

  -- after a first part that stays
  writes_later : (o : Option ℕ) (p : Part) (ps : List Part) → writes_of d (written_at (option_map suc o) new.0 new.1 (p ∷ ps)) ≡ write_of d p ∷ writes_of d (written_at o new.0 new.1 ps)
  writes_later o p ps = ap (writes_of d) (written_later o new.0 new.1 p ps)

  from_all : (log : List Part) → AreSlotParts index d log → writes_of d (with_write 0 new.0 new.1 log) ≡ replaced (write_of d new) (writes_of d log)
  from_all [] parts = refl
  from_all (p ∷ ps) parts = elim (cases_Bool (is_same (new.0, length new.1) (p.0, length p.1) && meets_none (new.0, length new.1) (ranges_of ps))) [
    | inl b ↦
        let both = and_parts (is_same (new.0, length new.1) (p.0, length p.1)) (meets_none (new.0, length new.1) (ranges_of ps)) b in
        let eqs = and_parts (nat_eq new.0 p.0) (nat_eq (length new.1) (length p.1)) both.0 in
        let len : length p.1 ≡ length new.1 = sym (eqb-true (length new.1) (length p.1) eqs.1) in
        ap (λ (x : Bool). writes_of d (written_at (cond x (Some 0) (option_map suc (edit_pos 0 (new.0, length new.1) (ranges_of ps)))) new.0 new.1 (p ∷ ps))) b
        ∙ ap (λ (x : List ℕ). write_said d (slot_said x) ∷ writes_of d ps) (put_whole p.1 new.1 len)
        ∙ sym (ap (λ (x : Bool). cond x (write_of d new ∷ writes_of d ps) (write_of d p ∷ replaced (write_of d new) (writes_of d ps))) (sym (last_is p ps parts) ∙ b))
    | inr b ↦
        ap (λ (x : Bool). writes_of d (written_at (cond x (Some 0) (option_map suc (edit_pos 0 (new.0, length new.1) (ranges_of ps)))) new.0 new.1 (p ∷ ps))) b
        ∙ writes_later (edit_pos 0 (new.0, length new.1) (ranges_of ps)) p ps
        ∙ ap (λ (l : List Write). write_of d p ∷ l) (from_all ps parts.1)
        ∙ sym (ap (λ (x : Bool). cond x (write_of d new ∷ writes_of d ps) (write_of d p ∷ replaced (write_of d new) (writes_of d ps))) (sym (last_is p ps parts) ∙ b))
  ]

  pub writes_after : (floor : ℕ) (log : List Part) → AreSlotParts index d log → writes_of d (with_write floor new.0 new.1 log) ≡ table.with_write floor (write_of d new) (writes_of d log)
  writes_after zero log parts = from_all log parts
  writes_after (suc floor) [] parts = refl
  writes_after (suc floor) (p ∷ ps) parts =
      writes_later (edit_pos floor (new.0, length new.1) (ranges_of ps)) p ps ∙ ap (λ (l : List Write). write_of d p ∷ l) (writes_after floor ps parts.1)

  -- it replaces a part exactly when the key was written after the floor
  pub rewrites : (floor : ℕ) (log : List Part) → AreSlotParts index d log → is_some (edit_pos floor (new.0, length new.1) (ranges_of log)) ≡ list_any (is_of (write_of d new).0) (drop floor (writes_of d log))
  rewrites zero [] parts = refl
  rewrites (suc floor) [] parts = refl
  rewrites zero (p ∷ ps) parts =
      some_map (is_same (new.0, length new.1) (p.0, length p.1) && meets_none (new.0, length new.1) (ranges_of ps)) (edit_pos 0 (new.0, length new.1) (ranges_of ps))
      ∙ (λ i. cond (last_is p ps parts i) true (rewrites zero ps parts.1 i))
      ∙ one_or_other (is_of (write_of d new).0 (write_of d p)) (list_any (is_of (write_of d new).0) (writes_of d ps))
  rewrites (suc floor) (p ∷ ps) parts = some_more (edit_pos floor (new.0, length new.1) (ranges_of ps)) ∙ rewrites floor ps parts.1

  pub parts_after : (floor : ℕ) (log : List Part) → AreSlotParts index d log → AreSlotParts index d (with_write floor new.0 new.1 log)
  parts_after = write_ind new.0 new.1 (AreSlotParts index d) (λ p ps qs all step. (all.0, step all.1)) (λ none. (is, tt)) (λ old ps long all. (is, all.1))
