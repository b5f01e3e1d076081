-- An insertion among pairs whose slots are given.
use Rattle.std.proofs.Common.{◌≡◌, ℕ, zero, suc, ◌<◌, true, false, nat_lt, inl, inr, List, [], ◌∷◌, refl, ap}
use Rattle.std.proofs.lemmas.Bool.Decides.{leb_tells}
use Rattle.index_pages.proofs.Rising.{inserted-left, inserted-right}
use Rattle.index_pages.specs.Ways.{IsLocal, above}
use Rattle.page_store.specs.Pairs.{Pair, inserted}
use Rattle.record_slots.specs.Places.{next_slot, Carries, AreGiven}

pub inserted_local : (key to : ℕ) → IsLocal key (λ ps. inserted ps key to)
inserted_local key to = record {
  left = λ mid high xs ys r lt. inserted-left mid high key to xs ys r lt;
  right = λ low mid xs ys r le. inserted-right low mid key to xs ys r le;
}

pub same_local : (key : ℕ) → IsLocal key (λ ps. ps)
same_local key = record { left = λ mid high xs ys r lt. refl; right = λ low mid xs ys r le. refl }

pub given_inserted : (new : List ℕ) (table key to : ℕ) (ps : List Pair) → to < next_slot new → Carries new table (key, to) → AreGiven new table ps → AreGiven new table (inserted ps key to)
given_inserted new table key to [] a b g = (a, b, tt)
given_inserted new table key to (p ∷ ps) a b g =
    elim (leb_tells (suc key) p.0) [
      | inl h ↦ let e : nat_lt key p.0 ≡ true = h.0 in rw e (a, b, g)
      | inr h ↦ let e : nat_lt key p.0 ≡ false = h.0 in rw e (g.0, g.1, given_inserted new table key to ps a b g.2)
    ]

pub above_zero : (d : ℕ) → above d 0 ≡ d
above_zero zero = refl
above_zero (suc d) = ap suc (above_zero d)
