-- The lines of the fates of all callers, from one of them on.
use Rattle.std.proofs.Common.{◌≡◌, ℕ, zero, suc, ◌+◌, ◌<◌, List, [], ◌∷◌, ◌++◌, length, drop, slice_index_or, refl, sym, ap, ◌∙◌, arith}
use Rattle.std.proofs.lemmas.List.{append_assoc}
use Rattle.caller_plans.specs.declared.fate.Fate.{Fate}
use Rattle.history_text.specs.Text.{fate_line, numbered}

pub cons_at : {X : Type 0} (xs : List X) (i : ℕ) (d : X) → i < length xs → drop i xs ≡ slice_index_or xs i d ∷ drop (suc i) xs
cons_at [] i d less = absurd (omega (arith, less))
cons_at (x ∷ xs) zero d less = refl
cons_at (x ∷ xs) (suc i) d less = cons_at xs i d (omega (arith, less))

pub nothing_left : {X : Type 0} (xs : List X) → drop (length xs) xs ≡ []
nothing_left [] = refl
nothing_left (x ∷ xs) = nothing_left xs

-- one caller's lines, and those of the callers after it
pub one_more : (text : List ℕ) (all : List (List Fate)) (caller : ℕ) (d : List Fate) → caller < length all →
    (text ++ numbered (fate_line caller) 1 (slice_index_or all caller d)) ++ numbered (λ caller. numbered (fate_line caller) 1) (caller + 1) (drop (suc caller) all) ≡ text ++ numbered (λ caller. numbered (fate_line caller) 1) caller (drop caller all)
one_more text all caller d less =
    append_assoc text _ _ ∙ ap (λ (fates : List (List Fate)). text ++ numbered (λ caller. numbered (fate_line caller) 1) caller fates) (sym (cons_at all caller d less))
