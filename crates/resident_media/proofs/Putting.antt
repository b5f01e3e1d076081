-- Bytes that are put over the kept ones, a part of a block at a time.
use Rattle.std.proofs.Common.{◌≡◌, ℕ, ◌+◌, ◌-◌, ◌*◌, ◌/◌, ◌%◌, ◌<◌, ◌≤◌, ◌⊎◌, min, Bool, true, false, inl, inr, List, length, get_or, set, refl, sym, ◌∙◌, ap, subst, arith}
use Rattle.std.proofs.lemmas.Bool.{cases_lt, cases_eq}
use Rattle.std.proofs.lemmas.List.{length-set, get_or-set_same, get_or-set_other}
use borrow.Rule.Slice.PartMut.{put_mid}
use Rattle.mars_base.specs.Bytes.{range}
use Rattle.pcm_media.proofs.Ranges.{length-range, get_or-range}
use Rattle.resident_media.specs.Blocks.{Kept, Stands, IsSeen, IsPut, IsCovered, Covers, spot, byte_at}
use Rattle.resident_media.specs.Placing.{Appends}
use Rattle.resident_media.proofs.Parts.{now_before, now_inside, now_after, now_long}
use Rattle.resident_media.proofs.Spots.{not_both}
use Rattle.resident_media.proofs.Counts.{covers_keep}

-- a part of a block that has a place
module _ (kept : Kept) (capacity at : ℕ) (part : List ℕ) (s : Stands kept capacity) (some : 0 < get_or kept.places (at / 16384) 0) (few : at % 16384 + length part ≤ 16384) where
  abbrev start : ℕ
  start = spot kept.places at

  abbrev room : List ℕ
  room = put_mid start (length part) kept.room part

  within : start + length part ≤ length kept.room
  within = omega (arith, s.within (at / 16384), some, few)

  abbrev next : Kept
  next = record { len = kept.len; room = room; places = kept.places; known = set kept.known (at / 16384) true }

  pub part_long : length room ≡ length kept.room
  part_long = now_long start (length part) kept.room part refl within

  part_inside : (i : ℕ) → at ≤ i → i < at + length part → byte_at next i ≡ get_or part (i - at) 0
  part_inside i le lt =
      let one : i / 16384 ≡ at / 16384 = omega (arith, few, le, lt) in
      let place : get_or kept.places (i / 16384) 0 ≡ get_or kept.places (at / 16384) 0 = ap (λ (k : ℕ). get_or kept.places k 0) one in
      let there : spot kept.places i ≡ start + (i - at) = omega (arith, place, one, le, some) in
      ap (λ (k : ℕ). get_or room k 0) there
      ∙ now_inside start (length part) kept.room part refl within (start + (i - at)) (omega arith) (omega (arith, le, lt))
      ∙ ap (λ (k : ℕ). get_or part k 0) (omega arith)

  part_outside : (i : ℕ) → IsSeen kept.known i → (at ≤ i → i < at + length part → ⊥) → byte_at next i ≡ byte_at kept i
  part_outside i seen out =
      let has : 0 < get_or kept.places (i / 16384) 0 = s.placed (i / 16384) seen in
      let left : spot kept.places i < start → byte_at next i ≡ byte_at kept i = λ lt. now_before start (length part) kept.room part refl within (spot kept.places i) lt in
      let right : start + length part ≤ spot kept.places i → byte_at next i ≡ byte_at kept i = λ le. now_after start (length part) kept.room part refl within (spot kept.places i) le in
      elim (cases_lt (get_or kept.places (i / 16384) 0) (get_or kept.places (at / 16384) 0)) [
        | inl lower ↦ left (omega (arith, lower, has))
        | inr high ↦ elim (cases_lt (get_or kept.places (at / 16384) 0) (get_or kept.places (i / 16384) 0)) [
          | inl higher ↦ right (omega (arith, higher, some, few))
          | inr level ↦
              let p : get_or kept.places (i / 16384) 0 ≡ get_or kept.places (at / 16384) 0 = omega (arith, high, level) in
              let one : i / 16384 ≡ at / 16384 = s.apart (i / 16384) (at / 16384) has p in
              elim (cases_lt i at) [
                | inl front ↦ left (omega (arith, p, one, front, some))
                | inr le ↦ elim (cases_lt i (at + length part)) [
                  | inl lt ↦ absurd (out le lt)
                  | inr rear ↦ right (omega (arith, p, one, rear, some))
                ]
              ]
        ]
      ]

  pub part_put : IsPut at (length part) part kept next
  part_put = record { inside = λ i seen. part_inside i; outside = part_outside }

  -- no block becomes known
  pub known_put : IsPut at (length part) part kept (record { len = kept.len; room = room; places = kept.places; known = kept.known })
  known_put = record { inside = λ i seen. part_inside i; outside = part_outside }

-- a whole block that had no place
pub put_appended : (old new : Kept) (capacity at : ℕ) (part : List ℕ) → Stands old capacity → at % 16384 ≡ 0 → length part ≤ 16384 → Appends (at / 16384) part old new → IsPut at (length part) part old new
put_appended old new capacity at part before low few is = record {
  inside = λ i seen le lt.
      let one : i / 16384 ≡ at / 16384 = omega (arith, low, few, le, lt) in
      let place : get_or new.places (i / 16384) 0 ≡ get_or new.places (at / 16384) 0 = ap (λ (k : ℕ). get_or new.places k 0) one in
      let there : spot new.places i ≡ length old.room + (i - at) = omega (arith, place, is.last, one, low, le) in
      ap (λ (k : ℕ). get_or new.room k 0) there ∙ is.begins (i - at) (omega (arith, le, lt));
  outside = λ i seen out.
      let some : 0 < get_or old.places (i / 16384) 0 = before.placed (i / 16384) seen in
      let place : get_or new.places (i / 16384) 0 ≡ get_or old.places (i / 16384) 0 = is.places (i / 16384) some in
      let same : spot new.places i ≡ spot old.places i = omega (arith, place) in
      ap (λ (k : ℕ). get_or new.room k 0) same ∙ is.bytes (spot old.places i) (omega (arith, before.within (i / 16384), some));
}

-- an unknown block, which the part does not cover
pub put_none : (at : ℕ) (part : List ℕ) (kept : Kept) → at % 16384 + length part ≤ 16384 → get_or kept.known (at / 16384) false ≡ false → IsPut at (length part) part kept kept
put_none at part kept few none = record {
  inside = λ i seen le lt.
      let one : i / 16384 ≡ at / 16384 = omega (arith, few, le, lt) in
      absurd (not_both (sym none ∙ ap (λ (k : ℕ). get_or kept.known k false) (sym one) ∙ seen));
  outside = λ i seen out. refl;
}

-- it is the one block that the part may cover
only_block : (at count len b : ℕ) → 0 < count → at % 16384 + count ≤ 16384 → IsCovered at count len b → (b ≡ at / 16384) × (at % 16384 ≡ 0) × (count ≡ min 16384 (len - at)) ⊎ (len < at + count)
only_block at count len b some few is = elim (cases_lt len (at + count)) [
  | inl past ↦ inr past
  | inr fits ↦
      let one : b ≡ at / 16384 = omega (arith, some, few, is.0, is.1, is.2, fits) in
      inl (one, omega (arith, one, is.1), omega (arith, one, some, few, is.0, is.1, is.2, fits))
]

module _ (at count len block : ℕ) (known : List Bool) (some : 0 < count) (few : at % 16384 + count ≤ 16384) (fits : at + count ≤ len) (here : at / 16384 ≡ block) where
  pub covers_none : ((at % 16384 ≡ 0) × (count ≡ min 16384 (len - at)) → ⊥) → Covers at count len known known
  covers_none part = record {
    long = refl;
    inside = λ b is. elim (only_block at count len b some few is) [ inl whole ↦ absurd (part (whole.1, whole.2)) | inr past ↦ absurd (omega (arith, past, fits)) ];
    outside = λ b out. refl;
  }

  pub covers_set : (block < length known) → ((at % 16384 ≡ 0) × (count ≡ min 16384 (len - at))) ⊎ (get_or known block false ≡ true) → Covers at count len known (set known block true)
  covers_set lt either = record {
    long = length-set known block true;
    inside = λ b is. elim (only_block at count len b some few is) [
      | inl whole ↦ ap (λ (k : ℕ). get_or (set known block true) k false) (whole.0 ∙ here) ∙ get_or-set_same known block true false lt
      | inr past ↦ absurd (omega (arith, past, fits))
    ];
    outside = λ b out. elim (cases_eq b block) [
      | inl is ↦ elim either [
        | inl whole ↦ absurd (out (omega (arith, is, here, whole.0, some, fits), omega (arith, is, here, whole.0), omega (arith, is, here, whole.0, whole.1)))
        | inr seen ↦ ap (λ (k : ℕ). get_or (set known block true) k false) is ∙ get_or-set_same known block true false lt ∙ sym seen ∙ ap (λ (k : ℕ). get_or known k false) (sym is)
      ]
      | inr other ↦ get_or-set_other known block b true false other
    ];
  }

-- a part of a block that is known makes no other block known
pub covers_known : (at count len : ℕ) (known : List Bool) → at % 16384 + count ≤ 16384 → get_or known (at / 16384) false ≡ true → Covers at count len known known
covers_known at count len known few seen = record {
  long = refl;
  inside = λ b is. (let one : b ≡ at / 16384 = omega (arith, few, is.0, is.1, is.2) in ap (λ (k : ℕ). get_or known k false) one) ∙ seen;
  outside = λ b out. refl;
}

-- how far the bytes were put
pub record PutTo (at done : ℕ) (bytes : List ℕ) (old now : Kept) : Type 0 where
  pub few : done ≤ length bytes
  pub border : (done ≡ 0) ⊎ (((at + done) % 16384 ≡ 0) ⊎ (done ≡ length bytes))
  pub len : now.len ≡ old.len
  pub known : Covers at done old.len old.known now.known
  pub stands : IsPut at done bytes old now

pub put_begun : (at : ℕ) (bytes : List ℕ) (kept : Kept) → PutTo at 0 bytes kept kept
put_begun at bytes kept = record {
  few = omega arith;
  border = inl refl;
  len = refl;
  known = record { long = refl; inside = λ b is. absurd (omega (arith, is.0, is.1, is.2)); outside = λ b out. refl };
  stands = record { inside = λ i seen le lt. absurd (omega (arith, le, lt)); outside = λ i seen out. refl };
}

-- one part more, up to the next border or the end
pub put_more : (at done n : ℕ) (bytes piece : List ℕ) (old now next : Kept) → PutTo at done bytes old now → done < length bytes → n ≡ min (16384 - (at + done) % 16384) (length bytes - done)
    → piece ≡ range bytes done n → at + length bytes ≤ old.len
    → next.len ≡ now.len → Covers (at + done) (length piece) now.len now.known next.known → IsPut (at + done) (length piece) piece now next → PutTo at (done + n) bytes old next
put_more at done n bytes piece old now next was more is part fits len known given =
    let long : length piece ≡ n = ap (λ (l : List ℕ). length l) part ∙ length-range bytes done n (omega (arith, is, more)) in
    let step : Covers (at + done) n old.len now.known next.known =
    subst (λ (k : ℕ). Covers (at + done) k old.len now.known next.known) long (subst (λ (k : ℕ). Covers (at + done) (length piece) k now.known next.known) was.len known) in
    let put : IsPut (at + done) n piece now next = subst (λ (k : ℕ). IsPut (at + done) k piece now next) long given in
    let kept_seen : (i : ℕ) → i < old.len → (at + done ≤ i → i < at + done + n → ⊥) → IsSeen next.known i → IsSeen now.known i = λ i low out seen.
    sym (step.outside (i / 16384) (λ c. out (omega (arith, c.1)) (omega (arith, c.2, low)))) ∙ seen in
    record {
      few = omega (arith, is, more);
      border = inr (elim (cases_lt (done + n) (length bytes)) [ inl less ↦ inl (omega (arith, is, less, more)) | inr all ↦ inr (omega (arith, is, all, more)) ]);
      len = len ∙ was.len;
      known = record {
        long = step.long ∙ was.known.long;
        inside = λ b c. elim (cases_lt (b * 16384) (at + done)) [
          | inl low ↦
              let whole : IsCovered at done old.len b = elim was.border [
                | inl none ↦ absurd (omega (arith, none, low, c.1))
                | inr later ↦ elim later [
                  | inl border ↦ (c.0, c.1, omega (arith, border, low))
                  | inr all ↦ absurd (omega (arith, all, more))
                ]
              ] in
              let first : get_or now.known b false ≡ true = was.known.inside b whole in
              elim (cases_lt (at + done + n) (b * 16384)) [
                | inl far ↦ absurd (omega (arith, far, low))
                | inr near ↦ step.outside b (λ d. omega (arith, d.1, low)) ∙ first
              ]
          | inr from ↦ step.inside b (c.0, from, omega (arith, c.2))
        ];
        outside = λ b out. step.outside b (λ c. out (c.0, omega (arith, c.1), omega (arith, c.2))) ∙ was.known.outside b (λ c. out (c.0, c.1, omega (arith, c.2)));
      };
      stands = record {
        inside = λ i seen le lt. elim (cases_lt i (at + done)) [
          | inl front ↦
              let old_seen : IsSeen now.known i = kept_seen i (omega (arith, fits, is, more, lt)) (λ le' lt'. omega (arith, front, le')) seen in
              put.outside i old_seen (λ le' lt'. omega (arith, front, le')) ∙ was.stands.inside i old_seen le front
          | inr from ↦
              put.inside i seen from (omega (arith, lt)) ∙ ap (λ (l : List ℕ). get_or l (i - (at + done)) 0) part
              ∙ get_or-range bytes done n (i - (at + done)) (omega (arith, from, lt)) ∙ ap (λ (k : ℕ). get_or bytes k 0) (omega (arith, from, le))
        ];
        outside = λ i seen out.
            let now_seen : IsSeen now.known i = covers_keep at done old.len old.known now.known was.known (i / 16384) seen in
            put.outside i now_seen (λ le lt. out (omega (arith, le)) (omega (arith, lt))) ∙ was.stands.outside i seen (λ le lt. out le (omega (arith, lt)));
      };
    }
