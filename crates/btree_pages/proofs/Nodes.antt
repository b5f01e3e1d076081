-- A page of the tree, pair by pair.
use Rattle.std.proofs.Common.{◌≡◌, ◌≢◌, ℕ, zero, suc, ◌+◌, ◌-◌, ◌<◌, ◌≤◌, true, false, nat_eq, nat_lt, inl, inr, List, [], ◌∷◌, length, Some, None, refl, sym, ◌∙◌, ap, arith}
use Rattle.std.proofs.lemmas.Bool.Decides.{nat_tests}
use Rattle.page_store.specs.Pairs.{Pair, found}
use Rattle.index_pages.specs.Page.{level_said, count_said, pair_said, pairs_from, pairs_said}
use Rattle.index_pages.specs.Written.{IsPage, SaysHead}
use Rattle.index_pages.specs.declared.page.Head.{Head}
use Rattle.index_pages.proofs.Reading.{from_step, from_end}
use Rattle.btree_laws.specs.Descent.{child_for}
use Rattle.btree_pages.specs.Leaf.{behind_in}
use Rattle.btree_pages.specs.Node.{IsNode, SaysNode}

-- the head of a page of the tree, and a page that is not one
module _ (page : List ℕ) where
  pub page_of : IsNode page → IsPage page
  page_of node = record { kind_is = elim node.form [ inl f ↦ inl f | inr f ↦ inr (f.0, f.1, f.2) ]; most = node.most }

  module _ (head : Head) (says : SaysHead page head) where
    pub other_link : head.link ≢ 0 → ¬ IsNode page
    other_link some node = some (says.link ∙ node.link)

    pub other_count : head.level ≢ 0 → head.count ≡ 0 → ¬ IsNode page
    other_count inner none node = elim node.form [ inl f ↦ inner (says.level ∙ f.1) | inr f ↦ omega (arith, f.3, says.count, none) ]

    pub says_leaf : head.link ≡ 0 → head.level ≡ 0 → SaysNode page head
    says_leaf none leaf = record {
      node = record {
        form = elim says.page.kind_is [ inl f ↦ inl f | inr f ↦ absurd (omega (arith, f.1, says.level, leaf)) ];
        link = sym says.link ∙ none;
        most = says.page.most;
      };
      level = says.level;
      count = says.count;
    }

    pub says_inner : head.link ≡ 0 → head.level ≢ 0 → head.count ≢ 0 → SaysNode page head
    says_inner none inner some = record {
      node = record {
        form = elim says.page.kind_is [ inl f ↦ absurd (inner (says.level ∙ f.1)) | inr f ↦ inr (f.0, f.1, f.2, omega (arith, says.count, some)) ];
        link = sym says.link ∙ none;
        most = says.page.most;
      };
      level = says.level;
      count = says.count;
    }

  pub found_here : (i n key : ℕ) → i < n → (pair_said page i).0 ≡ key → found (pairs_from page i (n - i)) key ≡ Some (pair_said page i).1
  found_here i n key lt e = let b : nat_eq (pair_said page i).0 key ≡ true = grind (arith, nat_tests) in ap (λ (ps : List Pair). found ps key) (from_step page i n lt) ∙ (rw b refl)

  pub found_later : (i n key : ℕ) → i < n → (pair_said page i).0 ≢ key → found (pairs_from page i (n - i)) key ≡ found (pairs_from page (suc i) (n - suc i)) key
  found_later i n key lt e = let b : nat_eq (pair_said page i).0 key ≡ false = grind (arith, nat_tests) in ap (λ (ps : List Pair). found ps key) (from_step page i n lt) ∙ (rw b refl)

  two_steps : (k n : ℕ) → suc k < n → pairs_from page k (n - k) ≡ pair_said page k ∷ pair_said page (suc k) ∷ pairs_from page (suc (suc k)) (n - suc (suc k))
  two_steps k n lt = from_step page k n (omega arith) ∙ ap (λ (ps : List Pair). pair_said page k ∷ ps) (from_step page (suc k) n lt)

  last_step : (k n : ℕ) → n ≡ suc k → pairs_from page k (n - k) ≡ pair_said page k ∷ []
  last_step k n e = from_step page k n (omega arith) ∙ ap (λ (ps : List Pair). pair_said page k ∷ ps) (from_end page (suc k) n (omega arith))

  -- the search for a key's child stands at entry k, and the next one begins above the key
  pub child_here : (k n key : ℕ) → suc k < n → key < (pair_said page (suc k)).0
      → (child_for (pairs_from page k (n - k)) key ≡ (pair_said page k).1) × (behind_in (pairs_from page k (n - k)) key ≡ Some (pair_said page (suc k)))
  child_here k n key lt e =
      let b : nat_lt key (pair_said page (suc k)).0 ≡ true = grind (arith, nat_tests) in (
        ap (λ (ps : List Pair). child_for ps key) (two_steps k n lt) ∙ (rw b refl),
        ap (λ (ps : List Pair). behind_in ps key) (two_steps k n lt) ∙ (rw b refl),
      )

  -- the next entry does not
  pub child_later : (k n key : ℕ) → suc k < n → (pair_said page (suc k)).0 ≤ key
      → (child_for (pairs_from page k (n - k)) key ≡ child_for (pairs_from page (suc k) (n - suc k)) key) × (behind_in (pairs_from page k (n - k)) key ≡ behind_in (pairs_from page (suc k) (n - suc k)) key)
  child_later k n key lt e =
      let b : nat_lt key (pair_said page (suc k)).0 ≡ false = grind (arith, nat_tests) in (
        ap (λ (ps : List Pair). child_for ps key) (two_steps k n lt) ∙ (rw b (ap (λ (ps : List Pair). child_for ps key) (sym (from_step page (suc k) n lt)))),
        ap (λ (ps : List Pair). behind_in ps key) (two_steps k n lt) ∙ (rw b (ap (λ (ps : List Pair). behind_in ps key) (sym (from_step page (suc k) n lt)))),
      )

  -- there is no next entry
  pub child_last : (k n key : ℕ) → n ≡ suc k → (child_for (pairs_from page k (n - k)) key ≡ (pair_said page k).1) × (behind_in (pairs_from page k (n - k)) key ≡ None)
  child_last k n key e = (ap (λ (ps : List Pair). child_for ps key) (last_step k n e), ap (λ (ps : List Pair). behind_in ps key) (last_step k n e))

length_from : (page : List ℕ) (i n : ℕ) → length (pairs_from page i n) ≡ n
length_from page i zero = refl
length_from page i (suc n) = ap suc (length_from page (i + 1) n)

pub length_said : (page : List ℕ) → length (pairs_said page) ≡ count_said page
unfolding pairs_said
length_said page = length_from page 0 (count_said page)

-- an inner page has a child
pub inner_some : (page : List ℕ) → IsNode page → level_said page ≢ 0 → 1 ≤ length (pairs_said page)
inner_some page node inner = elim node.form [ inl f ↦ absurd (inner f.1) | inr f ↦ omega (arith, f.3, length_said page) ]
