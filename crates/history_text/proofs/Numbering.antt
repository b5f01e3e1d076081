-- The lines of the elements of a list, from one of them on.
use Rattle.std.proofs.Common.{◌≡◌, ℕ, zero, suc, ◌+◌, ◌<◌, List, [], ◌∷◌, ◌++◌, length, drop, slice_index_or, refl, sym, ap, ◌∙◌, arith}
use Rattle.std.proofs.lemmas.List.{append_assoc}
use Rattle.history_text.specs.Text.{numbered}

pub cons_at : {X : Type 0} (xs : List X) (i : ℕ) (d : X) → i < length xs → drop i xs ≡ slice_index_or xs i d ∷ drop (suc i) xs
cons_at [] i d less = absurd (omega (arith, less))
cons_at (x ∷ xs) zero d less = refl
cons_at (x ∷ xs) (suc i) d less = cons_at xs i d (omega (arith, less))

pub nothing_left : {X : Type 0} (xs : List X) → drop (length xs) xs ≡ []
nothing_left [] = refl
nothing_left (x ∷ xs) = nothing_left xs

-- one element's lines, and those of the elements after it
pub one_more : {X : Type 0} (line : ℕ → X → List ℕ) (text : List ℕ) (all : List X) (i : ℕ) (d : X) → i < length all
    → (text ++ line i (slice_index_or all i d)) ++ numbered line (i + 1) (drop (suc i) all) ≡ text ++ numbered line i (drop i all)
one_more line text all i d less = append_assoc text _ _ ∙ ap (λ (xs : List _). text ++ numbered line i xs) (sym (cons_at all i d less))
