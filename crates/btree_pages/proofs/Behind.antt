-- The entry behind that of a key's child, and the entries that are left.
use Rattle.std.proofs.Common.{◌≡◌, ◌+◌, ◌-◌, ◌<◌, ◌≤◌, ℕ, zero, suc, true, false, nat_lt, List, [], ◌∷◌, ◌++◌, length, get_or, take, drop, refl, sym, ◌∙◌, ap, subst, arith}
use Rattle.std.specs.List.{remove}
use Rattle.std.proofs.lemmas.Bool.Decides.{nat_tests}
use Rattle.page_store.specs.Pairs.{Pair}
use Rattle.btree_laws.specs.Removals.{right_of, without_right, without_last}

-- a search has come to entry j: what is behind it is what is behind the key's child
pub record IsBehind (ps : List Pair) (key j : ℕ) : Type 0 where
  pub right : right_of (drop j ps) key ≡ right_of ps key
  pub left : take j ps ++ without_right (drop j ps) key ≡ without_right ps key

right_at : (ps : List Pair) (j key : ℕ) → suc j < length ps → key < (get_or ps (suc j) (0, 0)).0
    → (right_of (drop j ps) key ≡ (get_or ps (suc j) (0, 0)).1) × (take j ps ++ without_right (drop j ps) key ≡ remove ps (suc j))
right_at [] j key lt less = absurd (omega arith)
right_at (e ∷ []) j key lt less = absurd (omega arith)
right_at (e ∷ f ∷ es) zero key lt less = let b : nat_lt key f.0 ≡ true = grind (arith, nat_tests) in (rw b (refl, refl))
right_at (e ∷ f ∷ es) (suc j) key lt less = let ih = right_at (f ∷ es) j key (omega arith) less in (ih.0, ap (λ (l : List Pair). e ∷ l) ih.1)

right_on : (ps : List Pair) (j key : ℕ) → suc j < length ps → (get_or ps (suc j) (0, 0)).0 ≤ key
    → (right_of (drop j ps) key ≡ right_of (drop (suc j) ps) key) × (take j ps ++ without_right (drop j ps) key ≡ take (suc j) ps ++ without_right (drop (suc j) ps) key)
right_on [] j key lt le = absurd (omega arith)
right_on (e ∷ []) j key lt le = absurd (omega arith)
right_on (e ∷ f ∷ es) zero key lt le = let b : nat_lt key f.0 ≡ false = grind (arith, nat_tests) in (rw b (refl, refl))
right_on (e ∷ f ∷ es) (suc j) key lt le = let ih = right_on (f ∷ es) j key (omega arith) le in (ih.0, ap (λ (l : List Pair). e ∷ l) ih.1)

right_end : (ps : List Pair) (j key : ℕ) → length ps ≤ suc j → right_of (drop j ps) key ≡ 0
right_end [] zero key le = refl
right_end [] (suc j) key le = refl
right_end (e ∷ []) zero key le = refl
right_end (e ∷ f ∷ es) zero key le = absurd (omega arith)
right_end (e ∷ es) (suc j) key le = right_end es j key (omega arith)

module _ (ps : List Pair) (i key : ℕ) (some : 1 ≤ i) where
  back : i ≡ suc (i - 1)
  back = omega arith

  pub behind_here : i < length ps → IsBehind ps key (i - 1) → key < (get_or ps i (0, 0)).0 → (right_of ps key ≡ (get_or ps i (0, 0)).1) × (remove ps i ≡ without_right ps key)
  behind_here lt so_far less =
      let r = right_at ps (i - 1) key (omega arith) (subst (λ (j : ℕ). key < (get_or ps j (0, 0)).0) back less) in
      (sym so_far.right ∙ r.0 ∙ ap (λ (j : ℕ). (get_or ps j (0, 0)).1) (sym back), ap (λ (j : ℕ). remove ps j) back ∙ sym r.1 ∙ so_far.left)

  pub behind_next : i < length ps → IsBehind ps key (i - 1) → (get_or ps i (0, 0)).0 ≤ key → IsBehind ps key (i + 1 - 1)
  behind_next lt so_far le =
      let on : suc (i - 1) ≡ i + 1 - 1 = omega arith in
      let r = right_on ps (i - 1) key (omega arith) (subst (λ (j : ℕ). (get_or ps j (0, 0)).0 ≤ key) back le) in
      subst (λ (j : ℕ). IsBehind ps key j) on (record { right = sym r.0 ∙ so_far.right; left = sym r.1 ∙ so_far.left })

  pub behind_none : length ps ≤ i → IsBehind ps key (i - 1) → right_of ps key ≡ 0
  behind_none le so_far = sym so_far.right ∙ right_end ps (i - 1) key (omega arith)

pub behind_first : (ps : List Pair) (key : ℕ) → IsBehind ps key 0
behind_first ps key = record { right = refl; left = refl }

-- all but the last
pub without_last-take : (ps : List Pair) → take (length ps - 1) ps ≡ without_last ps
without_last-take [] = refl
without_last-take (e ∷ []) = refl
without_last-take (e ∷ f ∷ es) =
    let one_less : length (e ∷ f ∷ es) - 1 ≡ suc (length (f ∷ es) - 1) = omega arith in
    ap (λ (n : ℕ). take n (e ∷ f ∷ es)) one_less ∙ ap (λ (l : List Pair). e ∷ l) (without_last-take (f ∷ es))
