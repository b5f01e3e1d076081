-- The slot of a pair that is found is given out.
use Rattle.std.proofs.Common.{◌≡◌, ℕ, ◌<◌, true, false, nat_eq, inl, inr, List, [], ◌∷◌, Some, ap, arith}
use Rattle.std.specs.Prelude.{nat_le, if◌then◌else◌}
use Rattle.std.proofs.lemmas.Bool.Decides.{eqb_tells, leb_tells}
use Rattle.record_slots.specs.Places.{next_slot, AreGiven}
use Rattle.page_store.specs.Pairs.{Pair, found, next}

pub given_next : (bytes : List ℕ) (table from : ℕ) (p : Pair) (ps : List Pair) → AreGiven bytes table ps → next ps from ≡ Some p → p.1 < next_slot bytes
given_next bytes table from p [] given some = absurd (cc)
given_next bytes table from p (q ∷ qs) given some =
    elim (leb_tells from q.0) [
      | inl le ↦ let b : nat_le from q.0 ≡ true = le.0 in let e : Some q ≡ Some p = (let some' : (if nat_le from q.0 then Some q else next qs from) ≡ Some p = some in rw b at some') in let e' : q ≡ p = cc in omega (arith, given.0, ap (λ (x : Pair). x.1) e')
      | inr lt ↦ let b : nat_le from q.0 ≡ false = lt.0 in given_next bytes table from p qs given.2 (let some' : (if nat_le from q.0 then Some q else next qs from) ≡ Some p = some in rw b at some')
    ]

pub given_found : (bytes : List ℕ) (table key slot : ℕ) (ps : List Pair) → AreGiven bytes table ps → found ps key ≡ Some slot → slot < next_slot bytes
given_found bytes table key slot [] given some = absurd (cc)
given_found bytes table key slot (q ∷ qs) given some =
    elim (eqb_tells q.0 key) [
      | inl is ↦ let b : nat_eq q.0 key ≡ true = is.0 in let e : Some q.1 ≡ Some slot = (let some' : (if nat_eq q.0 key then Some q.1 else found qs key) ≡ Some slot = some in rw b at some') in let e' : q.1 ≡ slot = cc in omega (arith, given.0, e')
      | inr other ↦ let b : nat_eq q.0 key ≡ false = other.0 in given_found bytes table key slot qs given.2 (let some' : (if nat_eq q.0 key then Some q.1 else found qs key) ≡ Some slot = some in rw b at some')
    ]
