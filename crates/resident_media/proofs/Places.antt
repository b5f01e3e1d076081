-- A place for a block.
use Rattle.std.proofs.Common.{◌≡◌, ℕ, zero, suc, ◌+◌, ◌*◌, ◌/◌, ◌<◌, ◌≤◌, Bool, true, false, inl, inr, List, [], ◌∷◌, ◌++◌, length, get_or, set, replicate, refl, sym, ◌∙◌, ap, subst, arith, length-append, append_assoc}
use Rattle.std.proofs.lemmas.Bool.{cases_eq, false_from_ne_true}
use Rattle.std.proofs.lemmas.List.{length-set, length-replicate, get_or-set_same, get_or-set_other, get_or_append_left, get_or-append_right}
use Rattle.resident_media.specs.Blocks.{Kept, Stands, placeless}
use Rattle.resident_media.specs.Placing.{Appends}
use Rattle.resident_media.proofs.Spots.{not_both}

placeless_set : (xs : List ℕ) (i v : ℕ) → i < length xs → get_or xs i 0 ≡ 0 → 0 < v → placeless (set xs i v) + 1 ≡ placeless xs
placeless_set [] i v lt was some = absurd (omega (arith, lt))
placeless_set (zero ∷ xs) zero zero lt was some = absurd (omega (arith, some))
placeless_set (zero ∷ xs) zero (suc v) lt was some = refl
placeless_set (suc x ∷ xs) zero v lt was some = absurd (omega (arith, was))
placeless_set (zero ∷ xs) (suc i) v lt was some = omega (arith, placeless_set xs i v (omega (arith, lt)) was some)
placeless_set (suc x ∷ xs) (suc i) v lt was some = placeless_set xs i v (omega (arith, lt)) was some

placeless_all : (n : ℕ) → placeless (replicate n 0) ≡ n
placeless_all zero = refl
placeless_all (suc n) = omega (arith, placeless_all n)

none_placed : (n b : ℕ) → get_or (replicate n zero) b zero ≡ zero
none_placed zero b = refl
none_placed (suc n) zero = refl
none_placed (suc n) (suc b) = none_placed n b

pub none_known : (n b : ℕ) → get_or (replicate n false) b false ≡ false
none_known zero b = refl
none_known (suc n) zero = refl
none_known (suc n) (suc b) = none_known n b

pub stands_fresh : (len n capacity : ℕ) (room places : List ℕ) (known : List Bool) → room ≡ [] → places ≡ replicate n 0 → known ≡ replicate n false → len ≤ n * 16384 → n * 16384 < len + 16384 → n * 16384 ≤ capacity
    → Stands (record { len = len; room = room; places = places; known = known }) capacity
stands_fresh len n capacity room places known r p k all last fits =
    let pl : length places ≡ n = ap (λ (l : List ℕ). length l) p ∙ length-replicate n 0 in
    let kl : length known ≡ n = ap (λ (l : List Bool). length l) k ∙ length-replicate n false in
    let rl : length room ≡ 0 = ap (λ (l : List ℕ). length l) r in
    let none : (b : ℕ) → get_or places b 0 ≡ 0 = λ b. ap (λ (l : List ℕ). get_or l b 0) p ∙ none_placed n b in
    let free : placeless places ≡ n = ap placeless p ∙ placeless_all n in
    record {
      all = omega arith;
      last = omega arith;
      long = omega arith;
      within = λ b. omega (arith, none b);
      apart = λ a b some same. absurd (omega (arith, none a, some));
      placed = λ b seen. absurd (not_both (sym (ap (λ (l : List Bool). get_or l b false) k ∙ none_known n b) ∙ seen));
      full = omega arith;
      fits = omega arith;
    }

module _ (kept : Kept) (capacity : ℕ) (s : Stands kept capacity) (block : ℕ) (lt : block < length kept.known) (none : get_or kept.places block 0 ≡ 0) where
  abbrev place : ℕ
  place = length kept.room / 16384 + 1

  free_less : placeless (set kept.places block place) + 1 ≡ placeless kept.places
  free_less = placeless_set kept.places block place (omega (arith, s.long)) none (omega arith)

  -- the room is a whole number of blocks, and there is room for one more
  pub whole : length kept.room / 16384 * 16384 ≡ length kept.room
  whole = omega (arith, s.full)

  pub spare : length kept.room + 16384 ≤ capacity
  spare = omega (arith, s.full, s.fits, free_less)

  pub here : get_or (set kept.places block place) block 0 ≡ place
  here = get_or-set_same kept.places block place 0 (omega (arith, s.long))

  module _ (zeros : List ℕ) (long : length zeros ≡ 16384) where
    abbrev next : Kept
    next = record { len = kept.len; room = kept.room ++ zeros; places = set kept.places block place; known = kept.known }

    longer : length (kept.room ++ zeros) ≡ length kept.room + 16384
    longer = omega (arith, length-append kept.room zeros)

    pub kept_places : (b : ℕ) → 0 < get_or kept.places b 0 → get_or next.places b 0 ≡ get_or kept.places b 0
    kept_places b some = elim (cases_eq b block) [
      | inl is ↦ absurd (omega (arith, ap (λ (k : ℕ). get_or kept.places k 0) is, some))
      | inr other ↦ get_or-set_other kept.places block b place 0 other
    ]

    pub stands_new : (capacity' : ℕ) → capacity ≤ capacity' → Stands next capacity'
    stands_new capacity' more = record {
      all = s.all;
      last = s.last;
      long = length-set kept.places block place ∙ s.long;
      within = λ b. elim (cases_eq b block) [
        | inl is ↦ omega (arith, ap (λ (k : ℕ). get_or (set kept.places block place) k 0) is, here, longer, whole)
        | inr other ↦ omega (arith, get_or-set_other kept.places block b place 0 other, s.within b, longer)
      ];
      apart = λ a b some same. elim (cases_eq a block) [
        | inl is ↦ elim (cases_eq b block) [
          | inl also ↦ is ∙ sym also
          | inr other ↦ absurd (omega (arith, ap (λ (k : ℕ). get_or (set kept.places block place) k 0) is, here, get_or-set_other kept.places block b place 0 other, s.within b, same, whole))
        ]
        | inr not ↦ elim (cases_eq b block) [
          | inl is ↦ absurd (omega (arith, ap (λ (k : ℕ). get_or (set kept.places block place) k 0) is, here, get_or-set_other kept.places block a place 0 not, s.within a, same, whole))
          | inr other ↦ s.apart a b (omega (arith, get_or-set_other kept.places block a place 0 not, some)) (sym (get_or-set_other kept.places block a place 0 not) ∙ same ∙ get_or-set_other kept.places block b place 0 other)
        ]
      ];
      placed = λ b seen. elim (cases_eq b block) [
        | inl is ↦ omega (arith, ap (λ (k : ℕ). get_or (set kept.places block place) k 0) is, here)
        | inr other ↦ omega (arith, get_or-set_other kept.places block b place 0 other, s.placed b seen)
      ];
      full = omega (arith, longer, free_less, s.full, length-set kept.places block place);
      fits = omega (arith, s.fits, more, length-set kept.places block place);
    }

-- other bytes in the room, of the same length, and perhaps one more block known, which has a place
pub stands_read : (kept : Kept) (capacity : ℕ) (room : List ℕ) → Stands kept capacity → length room ≡ length kept.room → Stands (record { len = kept.len; room = room; places = kept.places; known = kept.known }) capacity
stands_read kept capacity room s long = record {
  all = s.all;
  last = s.last;
  long = s.long;
  within = λ b. omega (arith, s.within b, long);
  apart = s.apart;
  placed = s.placed;
  full = omega (arith, s.full, long);
  fits = s.fits;
}

pub stands_known : (kept : Kept) (capacity block : ℕ) → Stands kept capacity → 0 < get_or kept.places block 0 → block < length kept.known
    → Stands (record { len = kept.len; room = kept.room; places = kept.places; known = set kept.known block true }) capacity
stands_known kept capacity block s some lt =
    let long : length (set kept.known block true) ≡ length kept.known = length-set kept.known block true in record {
      all = omega (arith, s.all, long);
      last = omega (arith, s.last, long);
      long = s.long ∙ sym long;
      within = s.within;
      apart = s.apart;
      placed = λ b seen. elim (cases_eq b block) [
        | inl is ↦ omega (arith, ap (λ (k : ℕ). get_or kept.places k 0) is, some)
        | inr other ↦ s.placed b (sym (get_or-set_other kept.known block b true false other) ∙ seen)
      ];
      full = s.full;
      fits = s.fits;
    }

pub stands_marked : (kept : Kept) (capacity : ℕ) (known : List Bool) → Stands kept capacity → length known ≡ length kept.known → ((b : ℕ) → get_or known b false ≡ true → get_or kept.known b false ≡ true)
    → Stands (record { len = kept.len; room = kept.room; places = kept.places; known = known }) capacity
stands_marked kept capacity known s long less = record {
  all = omega (arith, s.all, long);
  last = omega (arith, s.last, long);
  long = s.long ∙ sym long;
  within = s.within;
  apart = s.apart;
  placed = λ b seen. s.placed b (less b seen);
  full = s.full;
  fits = s.fits;
}

-- A block more, with zeros or what else may be behind its bytes.
pub appended : (kept : Kept) (capacity : ℕ) (s : Stands kept capacity) (block : ℕ) (lt : block < length kept.known) (none : get_or kept.places block 0 ≡ 0)
    → (bytes pad room : List ℕ) (place more : ℕ) → room ≡ (kept.room ++ bytes) ++ pad → place ≡ length kept.room / 16384 + 1 → length bytes + length pad ≡ 16384 → capacity ≤ more
    → (let new : Kept = record { len = kept.len; room = room; places = set kept.places block place; known = set kept.known block true } in Stands new more × Appends block bytes kept new)
appended kept capacity s block lt none bytes pad room place more room_is place_is long grows =
    let all : room ≡ kept.room ++ (bytes ++ pad) = room_is ∙ append_assoc kept.room bytes pad in
    let whole_block : length (bytes ++ pad) ≡ 16384 = omega (arith, length-append bytes pad, long) in
    let mid : Kept = record { len = kept.len; room = kept.room ++ (bytes ++ pad); places = set kept.places block (length kept.room / 16384 + 1); known = kept.known } in
    let there : get_or mid.places block 0 ≡ length kept.room / 16384 + 1 = here kept capacity s block lt none in
    let made : List ℕ → ℕ → Kept = λ r n. record { len = kept.len; room = r; places = set kept.places block n; known = set kept.known block true } in
    let last : Stands (made mid.room (length kept.room / 16384 + 1)) more × Appends block bytes kept (made mid.room (length kept.room / 16384 + 1)) = (
      stands_known mid more block (stands_new kept capacity s block lt none (bytes ++ pad) whole_block more grows) (omega (arith, there)) lt,
      record {
        len = refl;
        known = refl;
        last = omega (arith, there, whole kept capacity s block lt none);
        begins = λ i low. get_or-append_right kept.room (bytes ++ pad) (length kept.room) (length kept.room + i) 0 refl (omega arith)
            ∙ ap (λ (k : ℕ). get_or (bytes ++ pad) k 0) (omega arith) ∙ get_or_append_left bytes pad 0 i low;
        places = kept_places kept capacity s block lt none (bytes ++ pad) whole_block;
        bytes = λ k low. get_or_append_left kept.room (bytes ++ pad) 0 k low;
      },
    ) in
    subst (λ (r : List ℕ). Stands (made r place) more × Appends block bytes kept (made r place)) (sym all)
    (subst (λ (n : ℕ). Stands (made mid.room n) more × Appends block bytes kept (made mid.room n)) (sym place_is) last)

-- a block without a place is unknown
pub unknown_placeless : (kept : Kept) (capacity block : ℕ) → Stands kept capacity → get_or kept.places block 0 ≡ 0 → get_or kept.known block false ≡ false
unknown_placeless kept capacity block s none = false_from_ne_true (get_or kept.known block false) (λ seen. omega (arith, s.placed block seen, none))
