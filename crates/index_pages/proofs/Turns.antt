-- Pairs that come one after another.
use Rattle.std.proofs.Common.{◌≡◌, ℕ, zero, suc, ◌-◌, ◌<◌, ◌≤◌, true, false, inl, inr, List, [], ◌∷◌, length, get_or, drop, Some, None, refl, sym, ◌∙◌, ap, arith}
use Rattle.std.proofs.lemmas.Bool.Decides.{nat_tests, leb_tells}
use Rattle.std.specs.Prelude.{nat_le}
use Rattle.record_slots.specs.Places.{next_slot, AreGiven}
use Rattle.page_store.specs.Pairs.{Pair, Rise, next, InTurn, AreNext, AreInside}
use Rattle.index_pages.specs.Keys.{from_on}
use Rattle.index_pages.specs.Page.{pair_said, pairs_from}
use Rattle.index_pages.proofs.Reading.{from_step}

-- the next pair from a key on does not lie below the key
pub next_least : (ps : List Pair) (k : ℕ) (p : Pair) → next ps k ≡ Some p → k ≤ p.0
next_least [] k p is = absurd (cc)
next_least (q ∷ qs) k p is =
    elim (leb_tells k q.0) [
      | inl le ↦ let b : nat_le k q.0 ≡ true = le.0 in let e : Some q ≡ Some p = (rw b at is) in let e' : q ≡ p = cc in omega (arith, le.1, ap (λ (x : Pair). x.0) e')
      | inr lt ↦ let b : nat_le k q.0 ≡ false = lt.0 in next_least qs k p (rw b at is)
    ]

-- nor above the bound of all
pub next_below : (low high : ℕ) (ps : List Pair) (k : ℕ) (p : Pair) → Rise low high ps → next ps k ≡ Some p → p.0 < high
next_below low high [] k p rises is = absurd (cc)
next_below low high (q ∷ qs) k p rises is =
    elim (leb_tells k q.0) [
      | inl le ↦ let b : nat_le k q.0 ≡ true = le.0 in let e : Some q ≡ Some p = (rw b at is) in let e' : q ≡ p = cc in omega (arith, above (suc q.0) qs rises.1, ap (λ (x : Pair). x.0) e')
      | inr lt ↦ let b : nat_le k q.0 ≡ false = lt.0 in next_below (suc q.0) high qs k p rises.1 (rw b at is)
    ]
  where
    above : (low : ℕ) (ps : List Pair) → Rise low high ps → low ≤ high
    above low [] r = r
    above low (p ∷ ps) r = let h = above (suc p.0) ps r.1 in omega arith

next_cons : (p : Pair) (ps : List Pair) (k : ℕ) → p.0 < k → next (p ∷ ps) k ≡ next ps k
next_cons p ps k lt = (let b : nat_le k p.0 ≡ false = grind (arith, nat_tests) in rw b refl)

-- one more pair before all does not matter from a key above it on
turn_cons : (p : Pair) (ps : List Pair) (k : ℕ) (xs : List Pair) → p.0 < k → InTurn ps k xs → InTurn (p ∷ ps) k xs
turn_cons p ps k [] lt turn = tt
turn_cons p ps k (q ∷ qs) lt turn =
    let le = next_least ps k q turn.0 in
    (next_cons p ps k lt ∙ turn.0, turn_cons p ps (suc q.0) qs (omega (arith, le)) turn.1)

turn_all : (from slots : ℕ) (ps : List Pair) → AreInside from slots ps → InTurn ps from ps
turn_all from slots [] inside = tt
turn_all from slots (p ∷ ps) inside =
    let b : nat_le from p.0 ≡ true = grind (arith, nat_tests, inside.0) in
    (rw b refl, turn_cons p ps (suc p.0) ps (omega arith) (turn_all (suc p.0) slots ps inside.2))

-- the rest of a list from a key on comes in turn
pub turn_rest : (from slots : ℕ) (ps : List Pair) → AreInside from slots (from_on ps from) → InTurn ps from (from_on ps from)
turn_rest from slots [] inside = tt
turn_rest from slots (p ∷ ps) inside =
    elim (leb_tells from p.0) [
      | inl le ↦ let b : nat_le from p.0 ≡ true = le.0 in rw b (turn_all from slots (p ∷ ps) (rw b at inside))
      | inr lt ↦ let b : nat_le from p.0 ≡ false = lt.0 in rw b (turn_cons p ps from (from_on ps from) lt.1 (turn_rest from slots ps (rw b at inside)))
    ]

-- and is empty only if there is no next pair
pub rest_none : (ps : List Pair) (from : ℕ) → from_on ps from ≡ [] → next ps from ≡ None
rest_none [] from none = refl
rest_none (p ∷ ps) from none =
    elim (leb_tells from p.0) [
      | inl le ↦ let b : nat_le from p.0 ≡ true = le.0 in let e : (p ∷ ps) ≡ [] = (rw b at none) in absurd (cc)
      | inr lt ↦ let b : nat_le from p.0 ≡ false = lt.0 in rw b (rest_none ps from (rw b at none))
    ]

-- pairs that come in turn in a part come in turn in the whole, if the next of the part is the next of the whole
pub turn_in : (all ps : List Pair) (from : ℕ) (xs : List Pair) → ((k : ℕ) (p : Pair) → from ≤ k → next ps k ≡ Some p → next all k ≡ Some p) → InTurn ps from xs → InTurn all from xs
turn_in all ps from [] same turn = tt
turn_in all ps from (q ∷ qs) same turn =
    let le = next_least ps from q turn.0 in
    (same from q (omega arith) turn.0, turn_in all ps (suc q.0) qs (λ k p above is. same k p (omega (arith, le, above)) is) turn.1)

pub are_next : (all : List Pair) (from : ℕ) (xs : List Pair) → InTurn all from xs → (xs ≡ [] → next all from ≡ None) → AreNext all from xs
are_next all from [] turn none = none refl
are_next all from (p ∷ ps) turn none = turn

pub inside_less : (from low slots : ℕ) (xs : List Pair) → from ≤ low → AreInside low slots xs → AreInside from slots xs
inside_less from low slots [] le inside = tt
inside_less from low slots (p ∷ ps) le inside = (omega (arith, le, inside.0), inside.1, inside.2)

-- pairs of sound data lie inside
rise_inside : (bytes : List ℕ) (table slots low high : ℕ) (ps : List Pair) → Rise low high ps → AreGiven bytes table ps → next_slot bytes ≤ slots → AreInside low slots ps
rise_inside bytes table slots low high [] rises given most = tt
rise_inside bytes table slots low high (p ∷ ps) rises given most = (rises.0, omega (arith, given.0, most), rise_inside bytes table slots (suc p.0) high ps rises.1 given.2 most)

pub rest_inside : (bytes : List ℕ) (table slots low high from : ℕ) (ps : List Pair) → Rise low high ps → AreGiven bytes table ps → next_slot bytes ≤ slots → AreInside from slots (from_on ps from)
rest_inside bytes table slots low high from [] rises given most = tt
rest_inside bytes table slots low high from (p ∷ ps) rises given most =
    elim (leb_tells from p.0) [
      | inl le ↦ let b : nat_le from p.0 ≡ true = le.0 in rw b (le.1, omega (arith, given.0, most), rise_inside bytes table slots (suc p.0) high ps rises.1 given.2 most)
      | inr lt ↦ let b : nat_le from p.0 ≡ false = lt.0 in rw b (rest_inside bytes table slots (suc p.0) high from ps rises.1 given.2 most)
    ]

-- the pair at a place, of those that come in turn from it on
module _ (all : List Pair) (from bound : ℕ) where
  pub turn_at : (xs : List Pair) (i : ℕ) → i < length xs → InTurn all from (drop i xs) → (next all from ≡ Some (get_or xs i (0, 0))) × InTurn all (suc (get_or xs i (0, 0)).0) (drop (suc i) xs)
  turn_at [] i lt turn = absurd (omega arith)
  turn_at (x ∷ xs) zero lt turn = turn
  turn_at (x ∷ xs) (suc i) lt turn = turn_at xs i (omega arith) turn

  pub inside_at : (xs : List Pair) (i : ℕ) → i < length xs → AreInside from bound (drop i xs) → (from ≤ (get_or xs i (0, 0)).0) × ((get_or xs i (0, 0)).1 < bound) × AreInside (suc (get_or xs i (0, 0)).0) bound (drop (suc i) xs)
  inside_at [] i lt inside = absurd (omega arith)
  inside_at (x ∷ xs) zero lt inside = inside
  inside_at (x ∷ xs) (suc i) lt inside = inside_at xs i (omega arith) inside

-- the first of those that come next
pub next_first : (all : List Pair) (from : ℕ) (xs : List Pair) → 1 ≤ length xs → AreNext all from xs → InTurn all from xs
next_first all from [] some are = absurd (omega arith)
next_first all from (x ∷ xs) some are = are

pub next_empty : (all : List Pair) (from : ℕ) (xs : List Pair) → length xs ≡ 0 → AreNext all from xs → next all from ≡ None
next_empty all from [] none are = are
next_empty all from (x ∷ xs) none are = absurd (omega arith)

-- the rest of a page from a key on, pair by pair
pub rest_here : (page : List ℕ) (i n from : ℕ) → i < n → from ≤ (pair_said page i).0 → from_on (pairs_from page i (n - i)) from ≡ pairs_from page i (n - i)
rest_here page i n from lt le =
    let b : nat_le from (pair_said page i).0 ≡ true = grind (arith, nat_tests) in
    ap (λ (ps : List Pair). from_on ps from) (from_step page i n lt) ∙ (rw b refl) ∙ sym (from_step page i n lt)

pub rest_later : (page : List ℕ) (i n from : ℕ) → i < n → (pair_said page i).0 < from → from_on (pairs_from page i (n - i)) from ≡ from_on (pairs_from page (suc i) (n - suc i)) from
rest_later page i n from lt less = let b : nat_le from (pair_said page i).0 ≡ false = grind (arith, nat_tests) in ap (λ (ps : List Pair). from_on ps from) (from_step page i n lt) ∙ (rw b refl)
