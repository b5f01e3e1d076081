-- The plan of `main` without rows is that of a fresh array.
use Rattle.std.proofs.Common.{◌≡◌, ℕ, zero, suc, ◌-◌, ◌*◌, ◌≤◌, Bool, true, false, cond, inl, inr, List, [], ◌∷◌, nat_lt, drop, take, replicate, refl, ◌∙◌, ap, arith}
use Rattle.std.specs.Prelude.{slice_get}
use Rattle.std.specs.Option.{unwrap_or}
use Rattle.std.proofs.lemmas.Bool.Decides.{leb_tells}
use Rattle.record_slots.specs.Fresh.{fresh_page}
use Rattle.record_slots.specs.Super.{part_bytes}
use Rattle.record_slots.specs.declared.slot.Slot.{Slot}
use Rattle.history.specs.Key.{main_name}
use Rattle.history.specs.Rows.{NamedRows}
use Rattle.index_pages.specs.Written.{written_page, front_bytes, pairs_bytes}
use Rattle.table_builder.specs.Plan.{built_for, entries_for, index_for, levels_for, padded, planned_page, slots_bytes, slots_page}

-- `main` without rows
abbrev main_alone : List NamedRows
main_alone = (main_name, []) ∷ []

none_left : (n : ℕ) → drop {A = Slot} n [] ≡ []
none_left zero = refl
none_left (suc n) = refl

no_slots : (k : ℕ) → slots_page main_alone k ≡ replicate 512 0
unfolding slots_page
no_slots k = ap (λ (slots : List Slot). padded (slots_bytes (take 8 slots))) (none_left (8 * k))

no_index : (fill page : ℕ) → unwrap_or (slice_get (index_for fill main_alone) page) (replicate 512 0) ≡ fresh_page page
unfolding index_for built_for levels_for entries_for written_page front_bytes pairs_bytes part_bytes
no_index fill zero = refl
no_index fill (suc zero) = refl
no_index fill (suc (suc page)) = refl

pub fresh_planned : (fill half page : ℕ) → 2 ≤ half → planned_page (record { fill = fill; half = half; tables = (main_name, []) ∷ [] }) page ≡ fresh_page page
fresh_planned fill half page some = elim (leb_tells (suc page) half) [
  | inl h ↦
      let b : nat_lt page half ≡ true = h.0 in
      ap (λ (c : Bool). cond c (unwrap_or (slice_get (index_for fill main_alone) page) (replicate 512 0)) (slots_page main_alone (page - half))) b ∙ no_index fill page
  | inr h ↦
      let b : nat_lt page half ≡ false = h.0 in
      ap (λ (c : Bool). cond c (unwrap_or (slice_get (index_for fill main_alone) page) (replicate 512 0)) (slots_page main_alone (page - half))) b ∙ no_slots (page - half) ∙ high page (omega (arith, h.1, some))
]
  where
    high : (p : ℕ) → 2 ≤ p → replicate 512 0 ≡ fresh_page p
    high zero two = absurd (omega (arith, two))
    high (suc zero) two = absurd (omega (arith, two))
    high (suc (suc p)) two = refl
