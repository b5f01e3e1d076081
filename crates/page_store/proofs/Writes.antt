-- A write into a log: what stays of it.
use Rattle.std.proofs.Common.{◌≡◌, ℕ, zero, suc, ◌≤◌, Bool, cond, ◌&&◌, inl, inr, List, [], ◌∷◌, length, take, drop, refl, sym, ◌∙◌, ap, subst, arith}
use Rattle.std.specs.Prelude.{nat_eq, Option, Some, None}
use Rattle.std.specs.Option.{option_map}
use Rattle.std.proofs.lemmas.Bool.{cases_Bool, and_parts, eqb-true}
use Rattle.array_shape.specs.declared.shape.Shape.{Shape}
use Rattle.array_shape.specs.Places.{IsPlaced}
use Rattle.array_shape.specs.Logged.{Part, AllPlaced, ranges_of}
use Rattle.page_store.specs.Edit.{meets_none, is_same, edit_pos, written_at, with_write}
use Rattle.page_store.proofs.Edit.{written_later}
use Rattle.page_store.proofs.Parts.{put_whole}
use Rattle.std.proofs.lemmas.List.{length-append}
use Rattle.eaw_face.specs.State.{edited}

-- of no parts
pub take-none : (n : ℕ) → ◌≡◌ {A = List Part} (take n []) []
take-none zero = refl
take-none (suc n) = refl

pub drop-none : (n : ℕ) → ◌≡◌ {A = List Part} (drop n []) []
drop-none zero = refl
drop-none (suc n) = refl

pub length-edited : (pos at : ℕ) (bytes : List ℕ) (log : List Part) → length (edited pos at bytes log) ≡ length log
length-edited pos at bytes [] = refl
length-edited zero at bytes (p ∷ ps) = refl
length-edited (suc pos) at bytes (p ∷ ps) = ap suc (length-edited pos at bytes ps)

module _ (addr : ℕ) (bytes : List ℕ) where
  -- the parts before the floor are left alone
  pub write_front : (n floor : ℕ) (log : List Part) → n ≤ floor → floor ≤ length log → take n (with_write floor addr bytes log) ≡ take n log
  write_front zero floor log le long = refl
  write_front (suc n) zero log le long = absurd (omega arith)
  write_front (suc n) (suc floor) [] le long = absurd (omega arith)
  write_front (suc n) (suc floor) (p ∷ ps) le long =
      ap (take (suc n)) (written_later (edit_pos floor (addr, length bytes) (ranges_of ps)) addr bytes p ps) ∙ ap (λ (l : List Part). p ∷ l) (write_front n floor ps (omega arith) (omega arith))

  -- what holds of a list if it holds of one more part at the end, or of one part that has these bytes
  module _ (P : List Part → Type 0) (more : (p : Part) (ps qs : List Part) → P (p ∷ ps) → (P ps → P qs) → P (p ∷ qs)) (one : P [] → P ((addr, bytes) ∷ [])) (same : (old : List ℕ) (ps : List Part) → length old ≡ length bytes → P ((addr, old) ∷ ps) → P ((addr, bytes) ∷ ps)) where
    pub write_ind : (floor : ℕ) (log : List Part) → P log → P (with_write floor addr bytes log)
    write_ind floor [] holds = one holds
    write_ind zero (p ∷ ps) holds =
        let r : ℕ × ℕ = (addr, length bytes) in
        let rs = ranges_of ps in
        let at = λ (b : Bool). written_at (cond b (Some 0) (option_map suc (edit_pos zero r rs))) addr bytes (p ∷ ps) in
        elim (cases_Bool (is_same r (p.0, length p.1) && meets_none r rs)) [
          | inl is ↦
              let both = and_parts (is_same r (p.0, length p.1)) (meets_none r rs) is in
              let eqs = and_parts (nat_eq addr p.0) (nat_eq (length bytes) (length p.1)) both.0 in
              let addr_is : addr ≡ p.0 = eqb-true addr p.0 eqs.0 in
              let len_is : length p.1 ≡ length bytes = sym (eqb-true (length bytes) (length p.1) eqs.1) in
              subst P (ap (λ (x : List ℕ). (p.0, x) ∷ ps) (sym (put_whole p.1 bytes len_is)) ∙ sym (ap at is)) (subst (λ (a : ℕ). P ((a, bytes) ∷ ps)) addr_is (same p.1 ps len_is (subst (λ (a : ℕ). P ((a, p.1) ∷ ps)) (sym addr_is) holds)))
          | inr isnt ↦ subst P (sym (ap at isnt ∙ written_later (edit_pos zero r rs) addr bytes p ps)) (more p ps (with_write zero addr bytes ps) holds (λ h. write_ind zero ps h))
        ]
    write_ind (suc floor) (p ∷ ps) holds = subst P (sym (written_later (edit_pos floor (addr, length bytes) (ranges_of ps)) addr bytes p ps)) (more p ps (with_write floor addr bytes ps) holds (λ h. write_ind floor ps h))

  pub write_placed : (shape : Shape) → IsPlaced shape addr (length bytes) → (floor : ℕ) (log : List Part) → AllPlaced shape log → AllPlaced shape (with_write floor addr bytes log)
  write_placed shape placed = write_ind (AllPlaced shape) (λ p ps qs all step. (all.0, step all.1)) (λ none. (placed, tt)) (λ old ps long all. (placed, all.1))

  pub write_longer : (n floor : ℕ) (log : List Part) → n ≤ length log → n ≤ length (with_write floor addr bytes log)
  write_longer n floor log le = longer (edit_pos floor (addr, length bytes) (ranges_of log))
    where
      longer : (o : Option ℕ) → n ≤ length (written_at o addr bytes log)
      longer None = omega (arith, length-append log ((addr, bytes) ∷ []), le)
      longer (Some pos) = omega (arith, length-edited pos 0 bytes log, le)
