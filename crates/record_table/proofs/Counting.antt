-- How many keys an index has from a key on: no more than the array has slots, and fewer from each key behind.
use Rattle.std.proofs.Common.{◌≡◌, ℕ, zero, suc, ◌+◌, ◌<◌, ◌≤◌, Bool, true, false, inl, inr, List, [], ◌∷◌, length, get_or, map, drop, Some, refl, sym, ◌∙◌, ap, subst, arith}
use Rattle.std.specs.Prelude.{nat_eq, nat_le, if◌then◌else◌}
use Rattle.std.specs.List.{AllByRecursion, IsDistinct, list_any}
use Rattle.std.proofs.lemmas.Bool.{cases_Bool}
use Rattle.std.proofs.lemmas.Bool.Decides.{nat_tests, leb_tells}
use Rattle.std.proofs.lemmas.Map.Steps.{length-le_from_distinct_below}
use Rattle.array_shape.specs.Places.{data_len}
use Rattle.array_shape.specs.declared.shape.Shape.{Shape}
use Rattle.record_slots.specs.Places.{next_slot, Carries, AreGiven}
use Rattle.page_store.specs.Index.{Index, IsTable, slots_of}
use Rattle.page_store.specs.Pairs.{Pair, Rise, AreInside, InTurn, next}
use Rattle.index_pages.proofs.Turns.{next_least}
use Rattle.record_table.specs.Walked.{behind}
use Rattle.record_table.proofs.Sharing.{Laws, carries_one}

-- the pairs whose keys are not below this one
abbrev pub many : ℕ → List Pair → ℕ
many from [] = 0
many from (p ∷ ps) = if nat_le from p.0 then suc (many from ps) else many from ps

many_cons : (from : ℕ) (p : Pair) (ps : List Pair) → from ≤ p.0 → many from (p ∷ ps) ≡ suc (many from ps)
many_cons from p ps le = let b : nat_le from p.0 ≡ true = grind (arith, nat_tests) in rw b refl

many_past : (from : ℕ) (p : Pair) (ps : List Pair) → p.0 < from → many from (p ∷ ps) ≡ many from ps
many_past from p ps lt = let b : nat_le from p.0 ≡ false = grind (arith, nat_tests) in rw b refl

many_all : (from : ℕ) (ps : List Pair) → many from ps ≤ length ps
many_all from [] = omega arith
many_all from (p ∷ ps) = elim (leb_tells from p.0) [
  | inl le ↦ omega (arith, many_cons from p ps le.1, many_all from ps)
  | inr lt ↦ omega (arith, many_past from p ps lt.1, many_all from ps)
]

-- from a later key on there are no more
many_falls : (from later : ℕ) (ps : List Pair) → from ≤ later → many later ps ≤ many from ps
many_falls from later [] le = omega arith
many_falls from later (p ∷ ps) le = elim (leb_tells later p.0) [
  | inl both ↦ omega (arith, many_cons later p ps both.1, many_cons from p ps (omega (arith, le, both.1)), many_falls from later ps le)
  | inr less ↦ elim (leb_tells from p.0) [
    | inl one ↦ omega (arith, many_past later p ps less.1, many_cons from p ps one.1, many_falls from later ps le)
    | inr none ↦ omega (arith, many_past later p ps less.1, many_past from p ps none.1, many_falls from later ps le)
  ]
]

-- and behind the next one there are fewer
pub many_next : (ps : List Pair) (from : ℕ) (p : Pair) → next ps from ≡ Some p → suc (many (suc p.0) ps) ≤ many from ps
many_next [] from p is = absurd (cc)
many_next (q ∷ qs) from p is = elim (leb_tells from q.0) [
  | inl le ↦
      let b : nat_le from q.0 ≡ true = le.0 in
      let e : Some q ≡ Some p = (rw b at is) in
      let same : q ≡ p = cc in
      let key : q.0 ≡ p.0 = ap (λ (x : Pair). x.0) same in
      omega (arith, many_cons from q qs le.1, many_past (suc p.0) q qs (omega (arith, key)), many_falls from (suc p.0) qs (omega (arith, key, le.1)))
  | inr lt ↦
      let b : nat_le from q.0 ≡ false = lt.0 in
      let later : next qs from ≡ Some p = (rw b at is) in
      let least = next_least qs from p later in
      omega (arith, many_past from q qs lt.1, many_past (suc p.0) q qs (omega (arith, lt.1, least)), many_next qs from p later)
]

-- so behind some that come in turn
pub many_behind : (all : List Pair) (from : ℕ) (ps : List Pair) → InTurn all from ps → length ps + many (behind from ps) all ≤ many from all
many_behind all from [] turn = omega arith
many_behind all from (p ∷ ps) turn = omega (arith, many_next all from p turn.0, many_behind all (suc p.0) ps turn.1)

-- the slots of pairs
abbrev slots_in : List Pair → List ℕ
slots_in [] = []
slots_in (p ∷ ps) = p.1 ∷ slots_in ps

length-slots_in : (ps : List Pair) → length (slots_in ps) ≡ length ps
length-slots_in [] = refl
length-slots_in (p ∷ ps) = ap suc (length-slots_in ps)

-- a slot that carries a key is none of those of later keys
apart : (bytes : List ℕ) (table : ℕ) (p : Pair) (low high : ℕ) (ps : List Pair) → Carries bytes table p → p.0 < low → Rise low high ps → AreGiven bytes table ps → AllByRecursion (λ slot. nat_eq p.1 slot ≡ false) (slots_in ps)
apart bytes table p low high [] carries lt rises given = tt
apart bytes table p low high (q ∷ qs) carries lt rises given =
    let other : p.1 ≡ q.1 → ⊥ = λ e.
    let one = carries_one bytes table table p.0 q.0 q.1 (subst (λ (slot : ℕ). Carries bytes table (p.0, slot)) e carries) given.1 in
    omega (arith, one.1, lt, rises.0) in
    let differ : nat_eq p.1 q.1 ≡ false = grind (arith, nat_tests, other) in
    (differ, apart bytes table p (suc q.0) high qs carries (omega (arith, lt, rises.0)) rises.1 given.2)

distinct : (bytes : List ℕ) (table low high : ℕ) (ps : List Pair) → Rise low high ps → AreGiven bytes table ps → IsDistinct nat_eq (slots_in ps)
unfolding IsDistinct
distinct bytes table low high [] rises given = tt
distinct bytes table low high (p ∷ ps) rises given = (apart bytes table p (suc p.0) high ps given.1 (omega arith) rises.1 given.2, distinct bytes table (suc p.0) high ps rises.1 given.2)

below : (bytes : List ℕ) (table : ℕ) (ps : List Pair) (q : ℕ) → AreGiven bytes table ps → list_any (nat_eq q) (slots_in ps) ≡ true → q < next_slot bytes
below bytes table [] q given has = absurd (cc)
below bytes table (p ∷ ps) q given has = elim (cases_Bool (nat_eq q p.1)) [
  | inl here ↦ (let e : q ≡ p.1 = grind (arith, nat_tests) in omega (arith, e, given.0))
  | inr there ↦ below bytes table ps q given.2 (rw there at has)
]

-- an index of sound data has no more keys than the array has slots
pub keys_few : (index : Index) (laws : Laws index) (bytes : List ℕ) (shape : Shape) (table root from : ℕ) → length bytes ≡ data_len shape → index.sound bytes → IsTable bytes table root → many from (index.pairs bytes root) ≤ slots_of shape
keys_few index laws bytes shape table root from long sound named =
    let pairs = index.pairs bytes root in
    let given = laws.given bytes table root sound named in
    let counts = laws.counts bytes sound in
    let few = length-le_from_distinct_below (slots_in pairs) (next_slot bytes) (distinct bytes table 0 _ pairs (laws.rises bytes table root sound named) given) (λ q has. below bytes table pairs q given has) in
    omega (arith, few, length-slots_in pairs, many_all from pairs, counts.slots, long)

-- behind the pair at a place, of those behind a key
pub behind_at : (from : ℕ) (xs : List Pair) (i : ℕ) → i < length xs → behind from (drop i xs) ≡ behind (suc (get_or xs i (0, 0)).0) (drop (suc i) xs)
behind_at from [] i lt = absurd (omega arith)
behind_at from (x ∷ xs) zero lt = refl
behind_at from (x ∷ xs) (suc i) lt = behind_at from xs i (omega arith)

pub behind_all : (from : ℕ) (xs : List Pair) (i : ℕ) → length xs ≤ i → behind from (drop i xs) ≡ from
behind_all from [] zero le = refl
behind_all from [] (suc i) le = refl
behind_all from (x ∷ xs) zero le = absurd (omega arith)
behind_all from (x ∷ xs) (suc i) le = behind_all from xs i (omega arith)

-- the last of some pairs leads to a slot of the array
pub slot_inside : (from bound : ℕ) (xs : List Pair) (i : ℕ) → i < length xs → AreInside from bound xs → (get_or xs i (0, 0)).1 < bound
slot_inside from bound [] i lt inside = absurd (omega arith)
slot_inside from bound (x ∷ xs) zero lt inside = inside.1
slot_inside from bound (x ∷ xs) (suc i) lt inside = slot_inside (suc x.0) bound xs i (omega arith) inside.2
