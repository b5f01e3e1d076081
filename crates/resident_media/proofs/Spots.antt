-- Where bytes stand in the room, and a walk over parts of it.
use Rattle.std.proofs.Common.{◌≡◌, ℕ, ◌+◌, ◌-◌, ◌/◌, ◌%◌, ◌<◌, ◌≤◌, true, false, inl, inr, List, length, get_or, sym, ◌∙◌, ap, arith, true≢false}
use Rattle.std.proofs.lemmas.Bool.{cases_lt}
use Rattle.std.proofs.lemmas.List.{ext_get_or}
use borrow.Rule.Slice.PartMut.{put_mid}
use Rattle.mars_base.specs.Bytes.{range}
use Rattle.pcm_media.proofs.Ranges.{length-range, get_or-range}
use Rattle.resident_media.specs.Blocks.{spot}
use Rattle.resident_media.proofs.Parts.{now_before, now_inside, now_long}

pub not_both : false ≡ true → ⊥
not_both e = true≢false (sym e)

-- within one block
pub spot_on : (places : List ℕ) (a d : ℕ) → a % 16384 + d < 16384 → spot places (a + d) ≡ spot places a + d
spot_on places a d lt =
    let e : (a + d) / 16384 ≡ a / 16384 = omega arith in
    let p : get_or places ((a + d) / 16384) 0 ≡ get_or places (a / 16384) 0 = ap (λ (k : ℕ). get_or places k 0) e in
    omega (arith, p)

-- what was copied so far
pub record Copied (at done : ℕ) (room places buf : List ℕ) : Type 0 where
  pub few : done ≤ length buf
  pub bytes : (i : ℕ) → i < done → get_or buf i 0 ≡ get_or room (spot places (at + i)) 0

pub copied_on : (at done part from : ℕ) (room places buf piece : List ℕ) → piece ≡ range room from part → from + part ≤ length room → done + part ≤ length buf
    → from ≡ spot places (at + done) → (at + done) % 16384 + part ≤ 16384 → Copied at done room places buf → Copied at (done + part) room places (put_mid done part buf piece)
copied_on at done part from room places buf piece is within fits place few was =
    let long : length piece ≡ part = ap (λ (l : List ℕ). length l) is ∙ length-range room from part within in record {
      few = omega (arith, now_long done part buf piece long fits, fits);
      bytes = λ i lt. elim (cases_lt i done) [
        | inl before ↦ now_before done part buf piece long fits i before ∙ was.bytes i before
        | inr from_it ↦
            let there : spot places (at + done + (i - done)) ≡ spot places (at + done) + (i - done) = spot_on places (at + done) (i - done) (omega arith) in
            let here : at + done + (i - done) ≡ at + i = omega arith in
            let all : from + (i - done) ≡ spot places (at + i) = omega (arith, there, ap (spot places) here, place) in
            now_inside done part buf piece long fits i from_it lt ∙ ap (λ (l : List ℕ). get_or l (i - done) 0) is
            ∙ get_or-range room from part (i - done) (omega arith) ∙ ap (λ (k : ℕ). get_or room k 0) all
      ];
    }

-- what was compared so far stands there
pub record IsSame (at done : ℕ) (room places bytes : List ℕ) : Type 0 where
  pub few : done ≤ length bytes
  pub same : (i : ℕ) → i < done → get_or room (spot places (at + i)) 0 ≡ get_or bytes i 0

module _ (at done part from : ℕ) (room places bytes : List ℕ) (within : from + part ≤ length room) (fits : done + part ≤ length bytes) (place : from ≡ spot places (at + done))
    (few : (at + done) % 16384 + part ≤ 16384) where
  -- a byte of the next part
  next_spot : (i : ℕ) → done ≤ i → i < done + part → from + (i - done) ≡ spot places (at + i)
  next_spot i le lt =
      let there : spot places (at + done + (i - done)) ≡ spot places (at + done) + (i - done) = spot_on places (at + done) (i - done) (omega arith) in
      let here : at + done + (i - done) ≡ at + i = omega arith in
      omega (arith, there, ap (spot places) here, place)

  pub same_on : range room from part ≡ range bytes done part → IsSame at done room places bytes → IsSame at (done + part) room places bytes
  same_on is was = record {
    few = fits;
    same = λ i lt. elim (cases_lt i done) [
      | inl before ↦ was.same i before
      | inr le ↦
          ap (λ (k : ℕ). get_or room k 0) (sym (next_spot i le lt)) ∙ sym (get_or-range room from part (i - done) (omega arith)) ∙ ap (λ (l : List ℕ). get_or l (i - done) 0) is
          ∙ get_or-range bytes done part (i - done) (omega arith) ∙ ap (λ (k : ℕ). get_or bytes k 0) (omega (arith, le))
    ];
  }

  pub same_part : ((i : ℕ) → i < length bytes → get_or room (spot places (at + i)) 0 ≡ get_or bytes i 0) → range room from part ≡ range bytes done part
  same_part all =
      let one : length (range room from part) ≡ part = length-range room from part within in
      let two : length (range bytes done part) ≡ part = length-range bytes done part fits in
      ext_get_or 0 (range room from part) (range bytes done part) (omega (arith, one, two)) (λ k lt.
      let low : k < part = omega (arith, lt, one) in
      get_or-range room from part k low ∙ ap (λ (j : ℕ). get_or room j 0) (omega (arith, next_spot (done + k) (omega arith) (omega (arith, low)))) ∙ all (done + k) (omega (arith, low, fits)) ∙ sym (get_or-range bytes done part k low))
