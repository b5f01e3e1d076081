-- The number of a name among the names of tables.
use Rattle.std.proofs.Common.{◌≡◌, ◌≢◌, ℕ, zero, suc, ◌<◌, Bool, true, false, cond, List, [], ◌∷◌, Option, Some, None, refl, ap, ◌∙◌, arith}
use Rattle.std.specs.Prelude.{nat_eq, slice_get}
use Rattle.std.specs.Option.{option_map}
use lib.Pointwise.{pointwise}
use Rattle.std.proofs.lemmas.Bool.{false_from_ne_true}
use Rattle.std.proofs.lemmas.Bool.Decides.{Decides-eqb}
use Rattle.std.proofs.lemmas.Slice.Eq.{slice_eq-Decides}
use Rattle.record_slots.specs.Names.{number_of}

name_same : (one other : List ℕ) → one ≡ other → pointwise nat_eq one other ≡ true
name_same one other is = (slice_eq-Decides Decides-eqb one other (pointwise nat_eq one other) refl).1 is

name_other : (one other : List ℕ) → one ≢ other → pointwise nat_eq one other ≡ false
name_other one other ne = false_from_ne_true (pointwise nat_eq one other) (λ is. ne ((slice_eq-Decides Decides-eqb one other (pointwise nat_eq one other) refl).0 is))

some_is : (x y : List ℕ) → Some x ≡ Some y → x ≡ y
some_is x y e = cc

nothing : (x : List ℕ) → (let n : Option (List ℕ) = None in n ≡ Some x) → ⊥
nothing x e = absurd (cc)

-- the first that has a name has its number
pub first_is : (names : List (List ℕ)) (name : List ℕ) (j : ℕ) → slice_get names j ≡ Some name → ((k : ℕ) → k < j → slice_get names k ≢ Some name) → number_of names name ≡ Some j
first_is [] name j is before = absurd (nothing name is)
first_is (other ∷ names) name zero is before = ap (λ (b : Bool). cond b (Some 0) (option_map suc (number_of names name))) (name_same other name (some_is other name is))
first_is (other ∷ names) name (suc j) is before =
    ap (λ (b : Bool). cond b (Some 0) (option_map suc (number_of names name))) (name_other other name (λ e. before 0 (omega arith) (ap Some e)))
    ∙ ap (option_map suc) (first_is names name j is (λ k lt. before (suc k) (omega (arith, lt))))

-- a name that none has has no number
pub none_is : (names : List (List ℕ)) (name : List ℕ) → ((j : ℕ) → slice_get names j ≢ Some name) → number_of names name ≡ None
none_is [] name none = refl
none_is (other ∷ names) name none =
    ap (λ (b : Bool). cond b (Some 0) (option_map suc (number_of names name))) (name_other other name (λ e. none 0 (ap Some e)))
    ∙ ap (option_map suc) (none_is names name (λ j. none (suc j)))
