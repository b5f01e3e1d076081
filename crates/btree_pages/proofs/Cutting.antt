-- Children among pairs, one by one.
use Rattle.std.proofs.Common.{◌≡◌, ◌+◌, ◌-◌, ◌<◌, ◌≤◌, ℕ, zero, suc, false, nat_lt, List, [], ◌∷◌, length, get_or, drop, refl, ◌∙◌, ap, subst, arith}
use Rattle.std.proofs.lemmas.Bool.Decides.{nat_tests}
use Rattle.page_store.specs.Pairs.{Pair}
use Rattle.btree_laws.specs.Descent.{child_for}

-- the search for a key's child moves to the next entry
child_on : (ps : List Pair) (i key : ℕ) → suc i < length ps → (get_or ps (suc i) (0, 0)).0 ≤ key → child_for (drop i ps) key ≡ child_for (drop (suc i) ps) key
child_on [] i key lt le = absurd (omega arith)
child_on (e ∷ []) i key lt le = absurd (omega arith)
child_on (e ∷ f ∷ es) zero key lt le = let b : nat_lt key f.0 ≡ false = grind (arith, nat_tests) in (rw b refl)
child_on (e ∷ f ∷ es) (suc i) key lt le = child_on (f ∷ es) i key (omega arith) le

pub child_next : (ps : List Pair) (i key : ℕ) → 1 ≤ i → i < length ps → (get_or ps i (0, 0)).0 ≤ key → child_for (drop (i - 1) ps) key ≡ child_for (drop (i + 1 - 1) ps) key
child_next ps i key some lt le =
    let back : i ≡ suc (i - 1) = omega arith in
    let on : suc (i - 1) ≡ i + 1 - 1 = omega arith in
    child_on ps (i - 1) key (omega arith) (subst (λ (j : ℕ). (get_or ps j (0, 0)).0 ≤ key) back le) ∙ ap (λ (j : ℕ). child_for (drop j ps) key) on
