-- Pairs that rise, of which one is taken out.
use Rattle.std.proofs.Common.{◌≡◌, ℕ, suc, ◌<◌, ◌≤◌, true, false, nat_eq, inl, inr, List, [], ◌∷◌, ◌++◌, length, Some, None, refl, ap, arith}
use Rattle.std.proofs.lemmas.Bool.Decides.{nat_tests, eqb_tells}
use Rattle.std.specs.Prelude.{if◌then◌else◌}
use Rattle.index_pages.proofs.Rising.{rise_bounds, rise_from_less, found-below}
use Rattle.index_pages.specs.Ways.{IsLocal}
use Rattle.index_pages.specs.Written.{AreSmall}
use Rattle.page_store.specs.Pairs.{Pair, Rise, found, removed}
use Rattle.record_slots.specs.Places.{AreGiven}

-- a key that is below them all is not there
pub removed-below : (low high key : ℕ) (ps : List Pair) → Rise low high ps → key < low → removed ps key ≡ ps
removed-below low high key [] r lt = refl
removed-below low high key (p ∷ ps) r lt =
    let e : nat_eq p.0 key ≡ false = grind (arith, nat_tests) in
    rw e (ap (λ (l : List Pair). p ∷ l) (removed-below (suc p.0) high key ps r.1 (omega arith)))

-- in a list of two halves the pair is taken out of the half in whose range its key lies
pub removed-left : (mid high key : ℕ) (xs ys : List Pair) → Rise mid high ys → key < mid → removed (xs ++ ys) key ≡ removed xs key ++ ys
removed-left mid high key [] ys s lt = removed-below mid high key ys s lt
removed-left mid high key (x ∷ xs) ys s lt =
    elim (eqb_tells x.0 key) [
      | inl h ↦ let e : nat_eq x.0 key ≡ true = h.0 in rw e refl
      | inr h ↦ let e : nat_eq x.0 key ≡ false = h.0 in rw e (ap (λ (l : List Pair). x ∷ l) (removed-left mid high key xs ys s lt))
    ]

pub removed-right : (low mid key : ℕ) (xs ys : List Pair) → Rise low mid xs → mid ≤ key → removed (xs ++ ys) key ≡ xs ++ removed ys key
removed-right low mid key [] ys r le = refl
removed-right low mid key (x ∷ xs) ys r le =
    let b = rise_bounds (suc x.0) mid xs r.1 in
    let e : nat_eq x.0 key ≡ false = grind (arith, nat_tests) in
    rw e (ap (λ (l : List Pair). x ∷ l) (removed-right (suc x.0) mid key xs ys r.1 le))

pub removed_local : (key : ℕ) → IsLocal key (λ ps. removed ps key)
removed_local key = record {
  left = λ mid high xs ys r lt. removed-left mid high key xs ys r lt;
  right = λ low mid xs ys r le. removed-right low mid key xs ys r le;
}

-- what is left rises
pub removed-rises : (low high key : ℕ) (ps : List Pair) → Rise low high ps → Rise low high (removed ps key)
removed-rises low high key [] r = r
removed-rises low high key (p ∷ ps) r =
    elim (eqb_tells p.0 key) [
      | inl h ↦ let e : nat_eq p.0 key ≡ true = h.0 in let le : low ≤ suc p.0 = omega (arith, r.0) in rw e (rise_from_less (suc p.0) low high ps le r.1)
      | inr h ↦ let e : nat_eq p.0 key ≡ false = h.0 in rw e (r.0, removed-rises (suc p.0) high key ps r.1)
    ]

-- and its slots are given
pub given_removed : (bytes : List ℕ) (table key : ℕ) (ps : List Pair) → AreGiven bytes table ps → AreGiven bytes table (removed ps key)
given_removed bytes table key [] g = g
given_removed bytes table key (p ∷ ps) g =
    elim (eqb_tells p.0 key) [
      | inl h ↦ let e : nat_eq p.0 key ≡ true = h.0 in rw e g.2
      | inr h ↦ let e : nat_eq p.0 key ≡ false = h.0 in rw e (g.0, g.1, given_removed bytes table key ps g.2)
    ]

-- at most one pair is taken out
pub length-removed : (key : ℕ) (ps : List Pair) → (length ps ≤ suc (length (removed ps key))) × (length (removed ps key) ≤ length ps)
length-removed key [] = (omega arith, omega arith)
length-removed key (p ∷ ps) =
    elim (eqb_tells p.0 key) [
      | inl h ↦ let e : nat_eq p.0 key ≡ true = h.0 in rw e (omega arith, omega arith)
      | inr h ↦ let e : nat_eq p.0 key ≡ false = h.0 in let ih = length-removed key ps in rw e (omega (arith, ih.0), omega (arith, ih.1))
    ]

-- just one if the key is there
pub removed-one : (key slot : ℕ) (ps : List Pair) → found ps key ≡ Some slot → length ps ≡ suc (length (removed ps key))
removed-one key slot [] is = absurd (cc)
removed-one key slot (p ∷ ps) is =
    elim (eqb_tells p.0 key) [
      | inl h ↦ let e : nat_eq p.0 key ≡ true = h.0 in rw e refl
      | inr h ↦ let e : nat_eq p.0 key ≡ false = h.0 in let is' = rw e at is in rw e (ap suc (removed-one key slot ps is'))
    ]

-- the key leads to nothing then, and each other to what it did
pub found-removed : (low high key other : ℕ) (ps : List Pair) → Rise low high ps → found (removed ps key) other ≡ (if nat_eq key other then None else found ps other)
found-removed low high key other [] r = elim (eqb_tells key other) [
  | inl h ↦ let e : nat_eq key other ≡ true = h.0 in rw e refl
  | inr h ↦ let e : nat_eq key other ≡ false = h.0 in rw e refl
]
found-removed low high key other (p ∷ ps) r =
    elim (eqb_tells p.0 key) [
      | inl h ↦
          let e : nat_eq p.0 key ≡ true = h.0 in
          elim (eqb_tells key other) [
            | inl same ↦
                let f : nat_eq key other ≡ true = same.0 in
                let none : found ps other ≡ None = found-below (suc p.0) high other ps r.1 (omega (arith, h.1, same.1)) in
                rw (e, f) none
            | inr differ ↦
                let f : nat_eq key other ≡ false = differ.0 in
                let f' : nat_eq p.0 other ≡ false = grind (arith, nat_tests, h.1) in
                rw (e, f, f') refl
          ]
      | inr h ↦
          let e : nat_eq p.0 key ≡ false = h.0 in
          let ih = found-removed (suc p.0) high key other ps r.1 in
          elim (eqb_tells p.0 other) [
            | inl here ↦
                let t : nat_eq p.0 other ≡ true = here.0 in
                let f : nat_eq key other ≡ false = grind (arith, nat_tests, here.1) in
                rw (e, t, f) refl
            | inr there ↦ let t : nat_eq p.0 other ≡ false = there.0 in rw (e, t) ih
          ]
    ]

-- one pair alone, if its key is there
pub alone_is : (key slot : ℕ) (ps : List Pair) → length ps ≡ 1 → found ps key ≡ Some slot → removed ps key ≡ []
alone_is key slot [] one is = absurd (cc)
alone_is key slot (p ∷ q ∷ ps) one is = absurd (omega arith)
alone_is key slot (p ∷ []) one is =
    elim (eqb_tells p.0 key) [
      | inl h ↦ let e : nat_eq p.0 key ≡ true = h.0 in rw e refl
      | inr h ↦ let e : nat_eq p.0 key ≡ false = h.0 in let bad = rw e at is in absurd (cc)
    ]

-- numbers of 64 bits stay such
pub small_removed : (key : ℕ) (ps : List Pair) → AreSmall ps → AreSmall (removed ps key)
small_removed key [] s = s
small_removed key (p ∷ ps) s =
    elim (eqb_tells p.0 key) [
      | inl h ↦ let e : nat_eq p.0 key ≡ true = h.0 in rw e s.2
      | inr h ↦ let e : nat_eq p.0 key ≡ false = h.0 in rw e (s.0, s.1, small_removed key ps s.2)
    ]

-- the slots of both halves of a list are given
pub given_left : (bytes : List ℕ) (table : ℕ) (xs ys : List Pair) → AreGiven bytes table (xs ++ ys) → AreGiven bytes table xs × AreGiven bytes table ys
given_left bytes table [] ys g = (tt, g)
given_left bytes table (x ∷ xs) ys g = let h = given_left bytes table xs ys g.2 in ((g.0, g.1, h.0), h.1)
