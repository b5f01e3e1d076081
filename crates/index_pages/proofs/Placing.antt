-- The place of a key among pairs.
use Rattle.std.proofs.Common.{◌≡◌, ℕ, suc, ◌+◌, ◌<◌, ◌≤◌, true, false, nat_eq, nat_lt, List, [], ◌∷◌, ◌++◌, length, get_or, take, drop, Some, None, refl, sym, ◌∙◌, ap, append_assoc, arith}
use Rattle.std.specs.List.{insert, remove}
use Rattle.std.proofs.lemmas.Bool.Decides.{nat_tests}
use Rattle.std.proofs.lemmas.List.{drop_more, drop_all, take_more, take_all, append-nil}
use Rattle.page_store.specs.Pairs.{Pair, found, inserted, removed}

module _ (ps : List Pair) (i key to : ℕ) (d : Pair) (lt : i < length ps) where
  pub place_here : key < (get_or ps i d).0 → take i ps ++ inserted (drop i ps) key to ≡ inserted ps key to → insert ps i (key, to) ≡ inserted ps key to
  place_here below so_far =
      let b : nat_lt key (get_or ps i d).0 ≡ true = grind (arith, nat_tests) in
      let here : inserted (drop i ps) key to ≡ (key, to) ∷ drop i ps = ap (λ (l : List Pair). inserted l key to) (drop_more ps i d lt) ∙ (rw b (ap (λ (l : List Pair). (key, to) ∷ l) (sym (drop_more ps i d lt)))) in
      ap (λ (l : List Pair). take i ps ++ l) (sym here) ∙ so_far

  pub place_later : (get_or ps i d).0 ≤ key → take i ps ++ inserted (drop i ps) key to ≡ inserted ps key to → take (i + 1) ps ++ inserted (drop (i + 1) ps) key to ≡ inserted ps key to
  place_later above so_far =
      let b : nat_lt key (get_or ps i d).0 ≡ false = grind (arith, nat_tests) in
      let here : inserted (drop i ps) key to ≡ get_or ps i d ∷ inserted (drop (i + 1) ps) key to = ap (λ (l : List Pair). inserted l key to) (drop_more ps i d lt) ∙ (rw b refl) in
      ap (λ (l : List Pair). l ++ inserted (drop (i + 1) ps) key to) (take_more ps i d lt) ∙ append_assoc (take i ps) (get_or ps i d ∷ []) (inserted (drop (i + 1) ps) key to)
      ∙ ap (λ (l : List Pair). take i ps ++ l) (sym here) ∙ so_far

pub place_last : (ps : List Pair) (i key to : ℕ) → length ps ≤ i → take i ps ++ inserted (drop i ps) key to ≡ inserted ps key to → insert ps (length ps) (key, to) ≡ inserted ps key to
place_last ps i key to le so_far =
    let none : drop i ps ≡ [] = drop_all i ps le in
    let none' : drop (length ps) ps ≡ [] = drop_all (length ps) ps (omega arith) in
    ap (λ (l : List Pair). take (length ps) ps ++ (key, to) ∷ l) none' ∙ ap (λ (l : List Pair). l ++ (key, to) ∷ []) (take_all (length ps) ps (omega arith) ∙ sym (take_all i ps le))
    ∙ ap (λ (l : List Pair). take i ps ++ inserted l key to) (sym none) ∙ so_far

-- a search for a key has come to pair i
pub record IsSought (ps : List Pair) (key i : ℕ) : Type 0 where
  pub left : take i ps ++ removed (drop i ps) key ≡ removed ps key
  pub found_is : found (drop i ps) key ≡ found ps key

pub sought_first : (ps : List Pair) (key : ℕ) → IsSought ps key 0
sought_first ps key = record { left = refl; found_is = refl }

module _ (ps : List Pair) (i key : ℕ) (d : Pair) (lt : i < length ps) (so_far : IsSought ps key i) where
  pub sought_here : (get_or ps i d).0 ≡ key → (remove ps i ≡ removed ps key) × (found ps key ≡ Some (get_or ps i d).1)
  sought_here is =
      let b : nat_eq (get_or ps i d).0 key ≡ true = grind (arith, nat_tests) in
      let here : removed (drop i ps) key ≡ drop (suc i) ps = ap (λ (l : List Pair). removed l key) (drop_more ps i d lt) ∙ (rw b (ap (λ (j : ℕ). drop j ps) (let e : i + 1 ≡ suc i = omega arith in e))) in
      let there : found (drop i ps) key ≡ Some (get_or ps i d).1 = ap (λ (l : List Pair). found l key) (drop_more ps i d lt) ∙ (rw b refl) in
      (ap (λ (l : List Pair). take i ps ++ l) (sym here) ∙ so_far.left, sym so_far.found_is ∙ there)

  pub sought_later : ((get_or ps i d).0 ≡ key → ⊥) → IsSought ps key (i + 1)
  sought_later other =
      let b : nat_eq (get_or ps i d).0 key ≡ false = grind (arith, nat_tests, other) in
      let here : removed (drop i ps) key ≡ get_or ps i d ∷ removed (drop (i + 1) ps) key = ap (λ (l : List Pair). removed l key) (drop_more ps i d lt) ∙ (rw b refl) in
      let there : found (drop i ps) key ≡ found (drop (i + 1) ps) key = ap (λ (l : List Pair). found l key) (drop_more ps i d lt) ∙ (rw b refl) in
      record {
        left = ap (λ (l : List Pair). l ++ removed (drop (i + 1) ps) key) (take_more ps i d lt) ∙ append_assoc (take i ps) (get_or ps i d ∷ []) (removed (drop (i + 1) ps) key)
            ∙ ap (λ (l : List Pair). take i ps ++ l) (sym here) ∙ so_far.left;
        found_is = sym there ∙ so_far.found_is;
      }

pub sought_last : (ps : List Pair) (i key : ℕ) → length ps ≤ i → IsSought ps key i → (found ps key ≡ None) × (removed ps key ≡ ps)
sought_last ps i key le so_far =
    let none : drop i ps ≡ [] = drop_all i ps le in
    let all : take i ps ≡ ps = take_all i ps le in (
      sym so_far.found_is ∙ ap (λ (l : List Pair). found l key) none,
      sym so_far.left ∙ ap (λ (l : List Pair). take i ps ++ removed l key) none ∙ append-nil (take i ps) ∙ all,
    )
