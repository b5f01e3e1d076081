-- Pairs that rise, and what is found among them.
use Rattle.std.proofs.Common.{◌≡◌, ℕ, zero, suc, ◌+◌, ◌<◌, ◌≤◌, true, false, nat_eq, nat_lt, inl, inr, List, [], ◌∷◌, ◌++◌, length, take, drop, Option, Some, None, refl, ap, arith}
use Rattle.std.proofs.lemmas.Bool.Decides.{nat_tests, leb_tells, eqb_tells}
use Rattle.std.specs.Prelude.{nat_le, if◌then◌else◌}
use Rattle.index_pages.specs.Keys.{key_at, or_else, head}
use Rattle.page_store.specs.Pairs.{Pair, Rise, found, next, inserted}

pub rise_bounds : (low high : ℕ) (ps : List Pair) → Rise low high ps → low ≤ high
rise_bounds low high [] r = r
rise_bounds low high (p ∷ ps) r = let h = rise_bounds (suc p.0) high ps r.1 in omega arith

pub rise_from_less : (low low' high : ℕ) (ps : List Pair) → low' ≤ low → Rise low high ps → Rise low' high ps
rise_from_less low low' high [] le r = omega arith
rise_from_less low low' high (p ∷ ps) le r = (omega arith, r.1)

pub rise_to_more : (low high high' : ℕ) (ps : List Pair) → high ≤ high' → Rise low high ps → Rise low high' ps
rise_to_more low high high' [] le r = omega arith
rise_to_more low high high' (p ∷ ps) le r = (r.0, rise_to_more (suc p.0) high high' ps le r.1)

pub rise_append : (low mid high : ℕ) (xs ys : List Pair) → Rise low mid xs → Rise mid high ys → Rise low high (xs ++ ys)
rise_append low mid high [] ys r s = rise_from_less mid low high ys r s
rise_append low mid high (x ∷ xs) ys r s = (r.0, rise_append (suc x.0) mid high xs ys r.1 s)

-- a key below the lower bound, or not below the upper one, is not there
pub found-below : (low high key : ℕ) (ps : List Pair) → Rise low high ps → key < low → found ps key ≡ None
found-below low high key [] r lt = refl
found-below low high key (p ∷ ps) r lt =
    let e : nat_eq p.0 key ≡ false = grind (arith, nat_tests) in
    rw e (found-below (suc p.0) high key ps r.1 (omega arith))

pub found-above : (low high key : ℕ) (ps : List Pair) → Rise low high ps → high ≤ key → found ps key ≡ None
found-above low high key [] r le = refl
found-above low high key (p ∷ ps) r le =
    let b = rise_bounds (suc p.0) high ps r.1 in
    let e : nat_eq p.0 key ≡ false = grind (arith, nat_tests) in
    rw e (found-above (suc p.0) high key ps r.1 le)

-- in a list of two halves a key is found in the half whose range it lies in
pub found-left : (low mid high key : ℕ) (xs ys : List Pair) → Rise low mid xs → Rise mid high ys → key < mid → found (xs ++ ys) key ≡ found xs key
found-left low mid high key [] ys r s lt = found-below mid high key ys s lt
found-left low mid high key (x ∷ xs) ys r s lt = ap (λ (o : Option ℕ). if nat_eq x.0 key then Some x.1 else o) (found-left (suc x.0) mid high key xs ys r.1 s lt)

pub found-right : (low mid key : ℕ) (xs ys : List Pair) → Rise low mid xs → mid ≤ key → found (xs ++ ys) key ≡ found ys key
found-right low mid key [] ys r le = refl
found-right low mid key (x ∷ xs) ys r le =
    let b = rise_bounds (suc x.0) mid xs r.1 in
    let e : nat_eq x.0 key ≡ false = grind (arith, nat_tests) in
    rw e (found-right (suc x.0) mid key xs ys r.1 le)

-- a pair is inserted in the half whose range its key lies in
pub inserted-left : (mid high key to : ℕ) (xs ys : List Pair) → Rise mid high ys → key < mid → inserted (xs ++ ys) key to ≡ inserted xs key to ++ ys
inserted-left mid high key to [] [] s lt = refl
inserted-left mid high key to [] (y ∷ ys) s lt =
    let e : nat_lt key y.0 ≡ true = grind (arith, nat_tests) in
    rw e refl
inserted-left mid high key to (x ∷ xs) ys s lt =
    elim (leb_tells (suc key) x.0) [
      | inl h ↦ let e : nat_lt key x.0 ≡ true = h.0 in rw e refl
      | inr h ↦ let e : nat_lt key x.0 ≡ false = h.0 in rw e (ap (λ (l : List Pair). x ∷ l) (inserted-left mid high key to xs ys s lt))
    ]

pub inserted-right : (low mid key to : ℕ) (xs ys : List Pair) → Rise low mid xs → mid ≤ key → inserted (xs ++ ys) key to ≡ xs ++ inserted ys key to
inserted-right low mid key to [] ys r le = refl
inserted-right low mid key to (x ∷ xs) ys r le =
    let b = rise_bounds (suc x.0) mid xs r.1 in
    let e : nat_lt key x.0 ≡ false = grind (arith, nat_tests) in
    rw e (ap (λ (l : List Pair). x ∷ l) (inserted-right (suc x.0) mid key to xs ys r.1 le))

-- an insertion of a key that is not there keeps the order
pub inserted-rises : (low high key to : ℕ) (ps : List Pair) → Rise low high ps → low ≤ key → key < high → found ps key ≡ None → Rise low high (inserted ps key to)
inserted-rises low high key to [] r le lt none = (le, lt)
inserted-rises low high key to (p ∷ ps) r le lt none =
    elim (leb_tells (suc key) p.0) [
      | inl h ↦ let e : nat_lt key p.0 ≡ true = h.0 in rw e (le, (h.1, r.1))
      | inr h ↦ elim (eqb_tells p.0 key) [
        | inl same ↦ let e : nat_eq p.0 key ≡ true = same.0 in let bad = rw e at none in absurd (cc)
        | inr other ↦
            let e : nat_lt key p.0 ≡ false = h.0 in
            let e' : nat_eq p.0 key ≡ false = other.0 in
            let rest = rw e' at none in
            rw e (r.0, inserted-rises (suc p.0) high key to ps r.1 (omega arith) lt rest)
      ]
    ]

-- a key that is inserted leads to what was inserted, the others to what they did
pub found-inserted : (low high key to other : ℕ) (ps : List Pair) → Rise low high ps → found ps key ≡ None
    → found (inserted ps key to) other ≡ (if nat_eq key other then Some to else found ps other)
found-inserted low high key to other [] r none = refl
found-inserted low high key to other (p ∷ ps) r none =
    elim (leb_tells (suc key) p.0) [
      | inl h ↦ let e : nat_lt key p.0 ≡ true = h.0 in rw e refl
      | inr h ↦
          let e : nat_lt key p.0 ≡ false = h.0 in
          elim (eqb_tells p.0 key) [
            | inl same ↦ let e' : nat_eq p.0 key ≡ true = same.0 in let bad = rw e' at none in absurd (cc)
            | inr differ ↦
                let e' : nat_eq p.0 key ≡ false = differ.0 in
                let rest = rw e' at none in
                let ih = found-inserted (suc p.0) high key to other ps r.1 rest in
                rw e (elim (eqb_tells p.0 other) [
                  | inl here ↦
                      let t : nat_eq p.0 other ≡ true = here.0 in
                      let f : nat_eq key other ≡ false = grind (arith, nat_tests) in
                      rw (t, f) refl
                  | inr there ↦ let f : nat_eq p.0 other ≡ false = there.0 in rw f ih
                ])
          ]
    ]

-- the least pair from a key on, in a list of two halves
pub next-right : (low mid from : ℕ) (xs ys : List Pair) → Rise low mid xs → mid ≤ from → next (xs ++ ys) from ≡ next ys from
next-right low mid from [] ys r le = refl
next-right low mid from (x ∷ xs) ys r le =
    let b = rise_bounds (suc x.0) mid xs r.1 in
    let e : nat_le from x.0 ≡ false = grind (arith, nat_tests) in
    rw e (next-right (suc x.0) mid from xs ys r.1 le)

pub next-some : (from : ℕ) (p : Pair) (xs ys : List Pair) → next xs from ≡ Some p → next (xs ++ ys) from ≡ Some p
next-some from p [] ys is = absurd (cc)
next-some from p (x ∷ xs) ys is =
    elim (leb_tells from x.0) [
      | inl h ↦ let e : nat_le from x.0 ≡ true = h.0 in rw e (rw e at is)
      | inr h ↦ let e : nat_le from x.0 ≡ false = h.0 in rw e (next-some from p xs ys (rw e at is))
    ]

pub next-none : (from : ℕ) (xs ys : List Pair) → next xs from ≡ None → next (xs ++ ys) from ≡ next ys from
next-none from [] ys is = refl
next-none from (x ∷ xs) ys is =
    elim (leb_tells from x.0) [
      | inl h ↦ let e : nat_le from x.0 ≡ true = h.0 in let bad = rw e at is in absurd (cc)
      | inr h ↦ let e : nat_le from x.0 ≡ false = h.0 in rw e (next-none from xs ys (rw e at is))
    ]

-- the pairs from the first on whose key is not below a key
pub rise_take : (n low high : ℕ) (x : Pair) (xs ys : List Pair) → Rise low high (xs ++ x ∷ ys) → Rise low x.0 xs × Rise x.0 high (x ∷ ys)
rise_take n low high x [] ys r = (r.0, (omega arith, r.1))
rise_take n low high x (y ∷ xs) ys r = let h = rise_take n (suc y.0) high x xs ys r.1 in ((r.0, h.0), h.1)

-- the first n pairs and the rest, of which the first key is the bound between them
pub take_rises : (n low high : ℕ) (ps : List Pair) → n < length ps → Rise low high ps → Rise low (key_at ps n) (take n ps)
take_rises n low high [] lt r = absurd (omega arith)
take_rises zero low high (p ∷ ps) lt r = r.0
take_rises (suc n) low high (p ∷ ps) lt r = (r.0, take_rises n (suc p.0) high ps (omega arith) r.1)

pub drop_rises : (n low high : ℕ) (ps : List Pair) → n < length ps → Rise low high ps → Rise (key_at ps n) high (drop n ps)
drop_rises n low high [] lt r = absurd (omega arith)
drop_rises zero low high (p ∷ ps) lt r = (omega arith, r.1)
drop_rises (suc n) low high (p ∷ ps) lt r = drop_rises n (suc p.0) high ps (omega arith) r.1

pub key_at-bounds : (n low high : ℕ) (ps : List Pair) → n < length ps → Rise low high ps → (low + n ≤ key_at ps n) × (key_at ps n < high)
key_at-bounds n low high [] lt r = absurd (omega arith)
key_at-bounds zero low high (p ∷ ps) lt r = let h = rise_bounds (suc p.0) high ps r.1 in (omega arith, omega arith)
key_at-bounds (suc n) low high (p ∷ ps) lt r = let h = key_at-bounds n (suc p.0) high ps (omega arith) r.1 in (omega arith, h.1)

pub length-inserted : (key to : ℕ) (ps : List Pair) → length (inserted ps key to) ≡ suc (length ps)
length-inserted key to [] = refl
length-inserted key to (p ∷ ps) =
    elim (leb_tells (suc key) p.0) [
      | inl h ↦ let e : nat_lt key p.0 ≡ true = h.0 in rw e refl
      | inr h ↦ let e : nat_lt key p.0 ≡ false = h.0 in rw e (ap suc (length-inserted key to ps))
    ]

pub next-append : (from : ℕ) (xs ys : List Pair) → next (xs ++ ys) from ≡ or_else (next xs from) (next ys from)
next-append from [] ys = refl
next-append from (x ∷ xs) ys =
    elim (leb_tells from x.0) [
      | inl h ↦ let e : nat_le from x.0 ≡ true = h.0 in rw e refl
      | inr h ↦ let e : nat_le from x.0 ≡ false = h.0 in rw e (next-append from xs ys)
    ]

-- from below all of them the first is the next
pub next-head : (low high from : ℕ) (ps : List Pair) → Rise low high ps → from ≤ low → next ps from ≡ head ps
next-head low high from [] r le = refl
next-head low high from (p ∷ ps) r le = let e : nat_le from p.0 ≡ true = grind (arith, nat_tests) in rw e refl
