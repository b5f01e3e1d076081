-- Trees on data of which some pages have changed.
use Rattle.std.proofs.Common.{◌≡◌, ℕ, zero, suc, ◌≤◌, inl, inr, List, [], ◌∷◌, refl, sym, ◌∙◌, ap, subst, arith}
use Rattle.btree_laws.specs.Sound.{AreBelow, AreSound, IsTree, IsUpper, inner_same}
use Rattle.btree_laws.specs.declared.root.Root.{Root}
use Rattle.btree_laws.specs.Tree.{IsUnder, IsUnderSome, next_low, pairs_under, pieces_with}
use Rattle.index_pages.specs.Page.{page_pairs, pairs_said, kind_said, level_said, link_said, count_said}
use Rattle.index_pages.specs.Pieces.{joined}
use Rattle.index_pages.proofs.Kept.{given_kept}
use Rattle.index_pages.specs.Ways.{Keeps}
use Rattle.page_store.specs.Pairs.{Pair, Rise}
use Rattle.record_slots.specs.Places.{page_bytes, AreGiven, next_page}

-- the children of a page, on data where no fewer pages are given out
pub children_moved : (root : Root) (old new : List ℕ) → next_page old ≤ next_page new → (es : List Pair) → AreBelow root.page (next_page old) es → AreBelow root.page (next_page new) es
children_moved root old new pages [] are = tt
children_moved root old new pages (e ∷ es) are = (are.0, omega (arith, are.1, pages), children_moved root old new pages es are.2)

-- a leaf on data where the slots of its pairs are given
pub leaf_moved : (root : Root) (old new : List ℕ) (page low high : ℕ) → page_bytes new page ≡ page_bytes old page → AreGiven new root.table (page_pairs old page) → IsTree root 0 old page low high → IsTree root 0 new page low high
leaf_moved root old new page low high e given t = (
  record {
    kind = ap kind_said e ∙ t.0.kind;
    level = ap level_said e ∙ t.0.level;
    link = ap link_said e ∙ t.0.link;
    most = subst (λ (b : List ℕ). count_said b ≤ 30) (sym e) t.0.most;
    some = λ other. subst (λ (b : List ℕ). 1 ≤ count_said b) (sym e) (t.0.some other);
    rises = subst (λ (b : List ℕ). Rise low high (pairs_said b)) (sym e) t.0.rises;
  },
  subst (λ (b : List ℕ). AreGiven new root.table (pairs_said b)) (sym e) given,
)

module _ (root : Root) (old new : List ℕ) (keeps : Keeps old new) where
  pub children_kept : (es : List Pair) → AreBelow root.page (next_page old) es → AreBelow root.page (next_page new) es
  children_kept es are = children_moved root old new keeps.pages es are

  pub leaf_kept : (page low high : ℕ) → page_bytes new page ≡ page_bytes old page → IsTree root 0 old page low high → IsTree root 0 new page low high
  leaf_kept page low high e t = leaf_moved root old new page low high e (given_kept old new keeps root.table (page_pairs old page) t.1) t

  pub inner_kept : (level page low : ℕ) → page_bytes new page ≡ page_bytes old page → IsUpper root.page old level page low → IsUpper root.page new level page low
  inner_kept level page low e t = inner_same (AreBelow root.page) (AreBelow root.page) old new level page low e (children_kept (page_pairs old page)) t

  IsSame : ℕ → Type 0
  IsSame q = page_bytes new q ≡ page_bytes old q

  Kept : ℕ → Type 0
  Kept l = (page low high : ℕ) → IsTree root l old page low high → ((q : ℕ) → IsUnder l old q page → page_bytes new q ≡ page_bytes old q)
      → IsTree root l new page low high × (pairs_under l new page ≡ pairs_under l old page)

  pub below_kept : (l : ℕ) → ((page low high : ℕ) → IsTree root l old page low high → ((q : ℕ) → IsUnder l old q page → page_bytes new q ≡ page_bytes old q)
      → IsTree root l new page low high × (pairs_under l new page ≡ pairs_under l old page))
      → (es : List Pair) (high : ℕ) → AreSound (IsTree root l old) es high → ((q : ℕ) → IsUnderSome (IsUnder l old q) es → page_bytes new q ≡ page_bytes old q)
      → AreSound (IsTree root l new) es high × (joined (pieces_with (pairs_under l new) es) ≡ joined (pieces_with (pairs_under l old) es))
  below_kept l ih [] high sound same = (tt, refl)
  below_kept l ih (e ∷ es) high sound same =
      let h = ih e.1 e.0 (next_low es high) sound.0 (λ q u. same q (inl u)) in
      let rest = below_kept l ih es high sound.1 (λ q u. same q (inr u)) in
      let one = h.1 in
      let two = rest.1 in
      ((h.0, rest.0), cc)

  -- a tree none of whose pages has changed
  pub tree_kept : (l page low high : ℕ) → IsTree root l old page low high → ((q : ℕ) → IsUnder l old q page → page_bytes new q ≡ page_bytes old q)
      → IsTree root l new page low high × (pairs_under l new page ≡ pairs_under l old page)
  tree_kept zero page low high t same = (leaf_kept page low high (same page refl) t, ap pairs_said (same page refl))
  tree_kept (suc l) page low high t same =
      let here = same page (inl refl) in
      let below = below_kept l (tree_kept l) (page_pairs old page) high t.1 (λ q u. same q (inr u)) in (
        (inner_kept (suc l) page low here t.0, subst (λ (b : List ℕ). AreSound (IsTree root l new) (pairs_said b) high) (sym here) below.0),
        ap (λ (b : List ℕ). joined (pieces_with (pairs_under l new) (pairs_said b))) here ∙ below.1,
      )
