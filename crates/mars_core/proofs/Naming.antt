-- The number of a name, and the name that is at a number.
use Rattle.std.proofs.Common.{◌≡◌, ℕ, zero, suc, Bool, true, false, cond, List, [], ◌∷◌, Option, Some, None, refl, ap, subst, arith}
use Rattle.std.specs.Prelude.{nat_eq, slice_get}
use Rattle.std.specs.Option.{option_map}
use lib.Pointwise.{pointwise}
use Rattle.history.proofs.Keys.{name_decides}
use Rattle.record_slots.specs.Names.{number_of}

-- a name has the number at which it is
pub number_at : (names : List (List ℕ)) (name : List ℕ) (j : ℕ) → number_of names name ≡ Some j → slice_get names j ≡ Some name
number_at [] name j is = absurd (cc)
number_at (other ∷ names) name j is = go (pointwise nat_eq other name) refl (number_of names name) refl j is (number_at names name)
  where
    go : (b : Bool) → pointwise nat_eq other name ≡ b → (o : Option ℕ) → number_of names name ≡ o → (k : ℕ) → cond b (Some 0) (option_map suc o) ≡ Some k
        → ((n : ℕ) → number_of names name ≡ Some n → slice_get names n ≡ Some name) → slice_get (other ∷ names) k ≡ Some name
    go true same o at zero is rest = ap (λ (n : List ℕ). Some n) ((name_decides other name).0 same)
    go true same o at (suc k) is rest = absurd (let e : ◌≡◌ {A = ℕ} 0 (suc k) = cc in omega (arith, e))
    go false differ None at k is rest = absurd (cc)
    go false differ (Some n) at k is rest = let e : suc n ≡ k = cc in subst (λ (m : ℕ). slice_get (other ∷ names) m ≡ Some name) e (rest n at)
