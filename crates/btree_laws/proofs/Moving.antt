-- A tree on data of which all but its own pages, and the slots of its own pairs, may have changed.
use Rattle.std.proofs.Common.{◌≡◌, ℕ, zero, suc, ◌≤◌, inl, inr, List, [], ◌∷◌, refl, sym, ◌∙◌, ap, subst, arith}
use Rattle.btree_laws.specs.Frames.{children_moved, leaf_moved}
use Rattle.btree_laws.specs.Sound.{AreBelow, AreSound, IsSoundTree, IsTree, inner_same}
use Rattle.btree_laws.specs.declared.root.Root.{Root}
use Rattle.btree_laws.specs.Tree.{IsPageOfTree, IsUnder, IsUnderSome, next_low, pairs_of_tree, pairs_under, pieces_with}
use Rattle.btree_laws.specs.TreeFacts.{tree_level}
use Rattle.index_pages.specs.Keys.{key_end}
use Rattle.index_pages.specs.Page.{page_pairs, pairs_said, kind_said, level_of}
use Rattle.index_pages.specs.Pieces.{joined}
use Rattle.page_store.specs.Pairs.{Pair}
use Rattle.index_pages.proofs.Removing.{given_left}
use Rattle.record_slots.specs.Places.{page_bytes, next_page, AreGiven}

module _ (root : Root) (old new : List ℕ) (pages : next_page old ≤ next_page new) where
  below_moved : (l : ℕ) → ((page low high : ℕ) → IsTree root l old page low high → ((q : ℕ) → IsUnder l old q page → page_bytes new q ≡ page_bytes old q) → AreGiven new root.table (pairs_under l old page)
      → IsTree root l new page low high × (pairs_under l new page ≡ pairs_under l old page))
      → (es : List Pair) (high : ℕ) → AreSound (IsTree root l old) es high → ((q : ℕ) → IsUnderSome (IsUnder l old q) es → page_bytes new q ≡ page_bytes old q)
      → AreGiven new root.table (joined (pieces_with (pairs_under l old) es))
      → AreSound (IsTree root l new) es high × (joined (pieces_with (pairs_under l new) es) ≡ joined (pieces_with (pairs_under l old) es))
  below_moved l ih [] high sound same given = (tt, refl)
  below_moved l ih (e ∷ es) high sound same given =
      let g = given_left new root.table (pairs_under l old e.1) (joined (pieces_with (pairs_under l old) es)) given in
      let h = ih e.1 e.0 (next_low es high) sound.0 (λ q u. same q (inl u)) g.0 in
      let rest = below_moved l ih es high sound.1 (λ q u. same q (inr u)) g.1 in
      let one = h.1 in
      let two = rest.1 in
      ((h.0, rest.0), cc)

  pub tree_moved : (l page low high : ℕ) → IsTree root l old page low high → ((q : ℕ) → IsUnder l old q page → page_bytes new q ≡ page_bytes old q) → AreGiven new root.table (pairs_under l old page)
      → IsTree root l new page low high × (pairs_under l new page ≡ pairs_under l old page)
  tree_moved zero page low high t same given = (leaf_moved root old new page low high (same page refl) given t, ap pairs_said (same page refl))
  tree_moved (suc l) page low high t same given =
      let here = same page (inl refl) in
      let below = below_moved l (tree_moved l) (page_pairs old page) high t.1 (λ q u. same q (inr u)) given in (
        (inner_same (AreBelow root.page) (AreBelow root.page) old new (suc l) page low here (children_moved root old new pages (page_pairs old page)) t.0, subst (λ (b : List ℕ). AreSound (IsTree root l new) (pairs_said b) high) (sym here) below.0),
        ap (λ (b : List ℕ). joined (pieces_with (pairs_under l new) (pairs_said b))) here ∙ below.1,
      )

pub sound_tree_moved : (root : Root) (old new : List ℕ) → IsSoundTree root old → next_page old ≤ next_page new
    → ((x : ℕ) → IsPageOfTree old root.page x → page_bytes new x ≡ page_bytes old x) → AreGiven new root.table (pairs_of_tree old root.page)
    → IsSoundTree root new × (pairs_of_tree new root.page ≡ pairs_of_tree old root.page) × (level_of new root.page ≡ level_of old root.page)
unfolding pairs_of_tree
sound_tree_moved root old new sound pages same given =
    let r = tree_moved root old new pages (level_of old root.page) root.page 0 key_end sound.2 same given in
    let e : level_of new root.page ≡ level_of old root.page = tree_level root (level_of old root.page) new root.page 0 key_end r.0 in (
      ((sound.0.0, omega (arith, sound.0.1, pages)), omega (arith, sound.1, e), subst (λ (n : ℕ). IsTree root n new root.page 0 key_end) (sym e) r.0),
      ap (λ (n : ℕ). pairs_under n new root.page) e ∙ r.1,
      e,
    )

-- a page that is neither a leaf nor an inner page belongs to no tree
module _ (root : Root) (bytes : List ℕ) (x : ℕ) (not_leaf : kind_said (page_bytes bytes x) ≡ 1 → ⊥) (not_inner : kind_said (page_bytes bytes x) ≡ 2 → ⊥) where
  apart_some : (l : ℕ) → ((page low high : ℕ) → IsTree root l bytes page low high → IsUnder l bytes x page → ⊥)
      → (es : List Pair) (high : ℕ) → AreSound (IsTree root l bytes) es high → IsUnderSome (IsUnder l bytes x) es → ⊥
  apart_some l ih [] high sound u = u
  apart_some l ih (e ∷ es) high sound (inl u) = ih e.1 e.0 (next_low es high) sound.0 u
  apart_some l ih (e ∷ es) high sound (inr u) = apart_some l ih es high sound.1 u

  pub apart_under : (l page low high : ℕ) → IsTree root l bytes page low high → IsUnder l bytes x page → ⊥
  apart_under zero page low high t u = not_leaf (ap (λ (y : ℕ). kind_said (page_bytes bytes y)) u ∙ t.0.kind)
  apart_under (suc l) page low high t (inl u) = not_inner (ap (λ (y : ℕ). kind_said (page_bytes bytes y)) u ∙ t.0.kind)
  apart_under (suc l) page low high t (inr u) = apart_some l (apart_under l) (page_pairs bytes page) high t.1 u

pub other_page_apart : (root : Root) (bytes : List ℕ) (x : ℕ) → IsSoundTree root bytes → (kind_said (page_bytes bytes x) ≡ 1 → ⊥) → (kind_said (page_bytes bytes x) ≡ 2 → ⊥) → IsUnder (level_of bytes root.page) bytes x root.page → ⊥
other_page_apart root bytes x sound not_leaf not_inner = apart_under root bytes x not_leaf not_inner (level_of bytes root.page) root.page 0 key_end sound.2
