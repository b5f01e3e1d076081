-- A write into a log, and what it makes of the data under it.
use Rattle.std.proofs.Common.{◌≡◌, ℕ, zero, suc, ◌+◌, ◌<◌, ◌≤◌, Bool, true, false, cond, ◌&&◌, not, inl, inr, List, [], ◌∷◌, length, refl, sym, ◌∙◌, ap, subst, arith}
use Rattle.std.specs.Prelude.{nat_eq, nat_lt, Option, Some, None}
use Rattle.std.specs.Option.{option_map}
use Rattle.std.proofs.lemmas.Bool.{cases_Bool, cases_lt, and_parts, and_cases, not-true, ltb-false, eqb-true}
use Rattle.mars_base.specs.Bytes.{put}
use Rattle.pcm_media.specs.Images.{IsOutside}
use Rattle.mars_base.proofs.Puts.{length-put}
use Rattle.array_shape.specs.Logged.{Part, applied, AllFit, ranges_of}
use Rattle.page_store.specs.Edit.{meet, meets_none, AreApart, is_same, edit_pos, written_at, with_write}
use Rattle.page_store.proofs.Parts.{applied_either_order, put_again, put_whole}

pub outside_met : (r q : ℕ × ℕ) (i : ℕ) → meet r q ≡ false → r.0 ≤ i → i < r.0 + r.1 → q.0 ≤ i → i < q.0 + q.1 → ⊥
outside_met r q i none from below from' below' = elim (and_cases (nat_lt r.0 (q.0 + q.1)) (nat_lt q.0 (r.0 + r.1)) none) [
  | inl past ↦ omega (arith, ltb-false r.0 (q.0 + q.1) past)
  | inr before ↦ omega (arith, ltb-false q.0 (r.0 + r.1) before)
]

outside_all : (r : ℕ × ℕ) (qs : List (ℕ × ℕ)) (i : ℕ) → meets_none r qs ≡ true → r.0 ≤ i → i < r.0 + r.1 → IsOutside qs i
outside_all r [] i none from below = tt
outside_all r (q ∷ qs) i none from below =
    let both = and_parts (not (meet r q)) (meets_none r qs) none in
    ((λ from' below'. outside_met r q i (not-true (meet r q) both.0) from below from' below'), outside_all r qs i both.1 from below)

pub meets_none_apart : (r : ℕ × ℕ) (qs : List (ℕ × ℕ)) → meets_none r qs ≡ true → AreApart (r ∷ []) qs
meets_none_apart r qs none i = elim (cases_lt i r.0) [
  | inl before ↦ inl ((λ le lt. omega arith), tt)
  | inr from ↦ elim (cases_lt i (r.0 + r.1)) [
    | inl below ↦ inr (outside_all r qs i none from below)
    | inr past ↦ inl ((λ le lt. omega arith), tt)
  ]
]

-- a write after the first part
pub written_later : (o : Option ℕ) (addr : ℕ) (bytes : List ℕ) (p : Part) (ps : List Part) → written_at (option_map suc o) addr bytes (p ∷ ps) ≡ p ∷ written_at o addr bytes ps
written_later None addr bytes p ps = refl
written_later (Some pos) addr bytes p ps = refl

module _ (addr : ℕ) (bytes : List ℕ) where
  -- the first part is edited
  edits_first : (p : Part) (ps : List Part) (d : List ℕ) → addr + length bytes ≤ length d → AllFit (length d) (p ∷ ps) → addr ≡ p.0 → length bytes ≡ length p.1 → meets_none (addr, length bytes) (ranges_of ps) ≡ true
      → applied ps (put d p.0 (put p.1 0 bytes)) ≡ put (applied ps (put d p.0 p.1)) addr bytes
  edits_first p ps d fits fit same_addr same_len none =
      let long : length (put d p.0 p.1) ≡ length d = length-put d p.0 p.1 fit.0 in
      ap (λ (x : List ℕ). applied ps (put d p.0 x)) (put_whole p.1 bytes (sym same_len))
      ∙ ap (λ (a : ℕ). applied ps (put d a bytes)) (sym same_addr)
      ∙ ap (applied ps) (sym (put_again d addr p.1 bytes fits (sym same_len)))
      ∙ ap (λ (a : ℕ). applied ps (put (put d a p.1) addr bytes)) same_addr
      ∙ sym (applied_either_order ((addr, bytes) ∷ []) ps (put d p.0 p.1) (rw long fits, tt) (subst (λ n. AllFit n ps) (sym long) fit.1) (meets_none_apart (addr, length bytes) (ranges_of ps) none))

  pub view_written : (floor : ℕ) (log : List Part) (d : List ℕ) → addr + length bytes ≤ length d → AllFit (length d) log → applied (with_write floor addr bytes log) d ≡ put (applied log d) addr bytes
  view_written floor [] d fits fit = refl
  view_written zero (p ∷ ps) d fits fit =
      let long : length (put d p.0 p.1) ≡ length d = length-put d p.0 p.1 fit.0 in
      let r : ℕ × ℕ = (addr, length bytes) in
      let rs = ranges_of ps in
      let at = λ (b : Bool). applied (written_at (cond b (Some 0) (option_map suc (edit_pos zero r rs))) addr bytes (p ∷ ps)) d in
      elim (cases_Bool (is_same r (p.0, length p.1) && meets_none r rs)) [
        | inl is ↦
            let both = and_parts (is_same r (p.0, length p.1)) (meets_none r rs) is in
            let same = and_parts (nat_eq addr p.0) (nat_eq (length bytes) (length p.1)) both.0 in
            ap at is ∙ edits_first p ps d fits fit (eqb-true addr p.0 same.0) (eqb-true (length bytes) (length p.1) same.1) both.1
        | inr isnt ↦
            ap at isnt ∙ ap (λ (l : List Part). applied l d) (written_later (edit_pos zero r rs) addr bytes p ps)
            ∙ view_written zero ps (put d p.0 p.1) (rw long fits) (subst (λ n. AllFit n ps) (sym long) fit.1)
      ]
  view_written (suc floor) (p ∷ ps) d fits fit =
      let long : length (put d p.0 p.1) ≡ length d = length-put d p.0 p.1 fit.0 in
      ap (λ (l : List Part). applied l d) (written_later (edit_pos floor (addr, length bytes) (ranges_of ps)) addr bytes p ps)
      ∙ view_written floor ps (put d p.0 p.1) (rw long fits) (subst (λ n. AllFit n ps) (sym long) fit.1)
