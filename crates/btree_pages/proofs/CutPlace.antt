-- Where a full page is cut.
use Rattle.std.proofs.Common.{◌≡◌, ℕ, zero, suc, ◌<◌, ◌≤◌, Bool, true, false, nat_eq, nat_lt, inl, inr, List, [], ◌∷◌, length, refl, sym, ◌∙◌, arith}
use Rattle.std.specs.Prelude.{◌&&◌, if◌then◌else◌}
use Rattle.std.proofs.lemmas.Bool.{false≢true}
use Rattle.std.proofs.lemmas.Bool.Decides.{nat_tests, leb_tells, eqb_tells}
use Rattle.index_pages.proofs.Rising.{key_at-bounds}
use Rattle.index_pages.specs.Keys.{key_at}
use Rattle.page_store.specs.Pairs.{Pair, Rise}
use Rattle.btree_pages.specs.Writes.{cut_for}

either_inside : (late : Bool) → (1 ≤ (if late then 29 else 15)) × ((if late then 29 else 15) < 30)
either_inside true = (omega arith, omega arith)
either_inside false = (omega arith, omega arith)

-- both pages have some of the pairs
pub cut_inside : (level : ℕ) (pairs : List Pair) (key : ℕ) → (1 ≤ cut_for level pairs key) × (cut_for level pairs key < 30)
unfolding cut_for
cut_inside level pairs key = either_inside (nat_eq level 0 && nat_lt (key_at pairs 29) key)

-- a leaf is cut at its end for a key behind its last pair, and any other page in the middle
pub cut_last : (level : ℕ) (pairs : List Pair) (key : ℕ) → level ≡ 0 → key_at pairs 29 < key → 29 ≡ cut_for level pairs key
unfolding cut_for
cut_last level pairs key leaf late =
    let bottom : nat_eq level 0 ≡ true = grind (arith, nat_tests) in
    let behind : nat_lt (key_at pairs 29) key ≡ true = grind (arith, nat_tests) in
    rw (bottom, behind) refl

pub cut_half : (level : ℕ) (pairs : List Pair) (key : ℕ) → (level ≡ 0 → key_at pairs 29 < key → ⊥) → 15 ≡ cut_for level pairs key
unfolding cut_for
cut_half level pairs key other = elim (eqb_tells level 0) [
  | inl leaf ↦ elim (leb_tells (suc (key_at pairs 29)) key) [
    | inl late ↦ absurd (other leaf.1 late.1)
    | inr among ↦
        let bottom : nat_eq level 0 ≡ true = leaf.0 in
        let before : nat_lt (key_at pairs 29) key ≡ false = among.0 in
        rw (bottom, before) refl
  ]
  | inr inner ↦ let high : nat_eq level 0 ≡ false = inner.0 in rw high refl
]

later_key : (m n low high : ℕ) (ps : List Pair) → m ≤ n → n < length ps → Rise low high ps → key_at ps m ≤ key_at ps n
later_key m n low high [] le lt rises = absurd (omega arith)
later_key zero zero low high (p ∷ ps) le lt rises = omega arith
later_key zero (suc n) low high (p ∷ ps) le lt rises = let b = key_at-bounds n (suc p.0) high ps (omega arith) rises.1 in omega arith
later_key (suc m) zero low high (p ∷ ps) le lt rises = absurd (omega arith)
later_key (suc m) (suc n) low high (p ∷ ps) le lt rises = later_key m n (suc p.0) high ps (omega arith) (omega arith) rises.1

side_by : (leaf late : Bool) (key : ℕ) (ps : List Pair) → (late ≡ true → nat_lt key (key_at ps 29) ≡ nat_lt key (key_at ps 15))
    → nat_lt key (key_at ps (if leaf && late then 29 else 15)) ≡ nat_lt key (key_at ps 15)
side_by true true key ps same = same refl
side_by true false key ps same = refl
side_by false true key ps same = refl
side_by false false key ps same = refl

-- on which side of the cut a key is, the middle tells: one that is behind all pairs is behind both
pub cut_side : (level key low high : ℕ) (ps : List Pair) → length ps ≡ 30 → Rise low high ps → nat_lt key (key_at ps (cut_for level ps key)) ≡ nat_lt key (key_at ps 15)
unfolding cut_for
cut_side level key low high ps full rises = elim (leb_tells (suc (key_at ps 29)) key) [
  | inl late ↦
      let rise = later_key 15 29 low high ps (omega arith) (omega (arith, full)) rises in
      let behind = late.1 in
      let last : nat_lt key (key_at ps 29) ≡ false = grind (arith, nat_tests) in
      let middle : nat_lt key (key_at ps 15) ≡ false = grind (arith, nat_tests) in
      side_by (nat_eq level 0) (nat_lt (key_at ps 29) key) key ps (λ yes. last ∙ sym middle)
  | inr among ↦ side_by (nat_eq level 0) (nat_lt (key_at ps 29) key) key ps (λ yes. absurd (false≢true (sym among.0 ∙ yes)))
]

pub side_before : (key a b : ℕ) → nat_lt key a ≡ nat_lt key b → key < b → key < a
side_before key a b same lt = elim (leb_tells (suc key) a) [
  | inl h ↦ h.1
  | inr h ↦ elim (leb_tells (suc key) b) [
    | inl k ↦ absurd (false≢true (sym h.0 ∙ same ∙ k.0))
    | inr k ↦ absurd (omega (arith, k.1, lt))
  ]
]

pub side_behind : (key a b : ℕ) → nat_lt key a ≡ nat_lt key b → b ≤ key → a ≤ key
side_behind key a b same le = elim (leb_tells (suc key) a) [
  | inl h ↦ elim (leb_tells (suc key) b) [
    | inl k ↦ absurd (omega (arith, k.1, le))
    | inr k ↦ absurd (false≢true (sym k.0 ∙ sym same ∙ h.0))
  ]
  | inr h ↦ omega (arith, h.1)
]
