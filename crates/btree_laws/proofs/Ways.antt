-- The way down to a key, and what a change at its end does to the whole tree.
use Rattle.std.proofs.Common.{◌≡◌, ◌≢◌, ℕ, zero, suc, ◌<◌, ◌≤◌, true, false, nat_lt, inl, inr, List, [], ◌∷◌, ◌++◌, length, refl, sym, ◌∙◌, ap, subst, arith}
use Rattle.std.proofs.lemmas.Bool.Decides.{leb_tells}
use Rattle.std.proofs.lemmas.List.{append-nil}
use Rattle.btree_laws.proofs.Apart.{child_facts, entries_tile, start_of, sub_below, sub_of, subs_apart}
use Rattle.btree_laws.specs.Descent.{child_for, leaf_for, page_for}
use Rattle.btree_laws.specs.Frames.{below_kept, inner_kept, tree_kept}
use Rattle.btree_laws.specs.Sound.{AreBelow, AreSound, IsSoundTree, IsTree}
use Rattle.btree_laws.specs.declared.root.Root.{Root}
use Rattle.btree_laws.specs.Tree.{IsUnder, IsUnderSome, next_low, pairs_of_tree, pairs_under, pieces_with}
use Rattle.btree_laws.specs.TreeFacts.{tree_level}
use Rattle.index_pages.proofs.Given.{above_zero}
use Rattle.index_pages.proofs.PageFacts.{length-page_pairs}
use Rattle.index_pages.proofs.Rising.{found-left, found-right}
use Rattle.index_pages.proofs.Tiling.{tile_bounds, joined_rises}
use Rattle.index_pages.specs.Keys.{key_end}
use Rattle.index_pages.specs.Page.{page_pairs, pairs_said, level_of}
use Rattle.index_pages.specs.Pieces.{joined, Tile}
use Rattle.index_pages.specs.Ways.{above, Keeps, IsLocal, IsOwn}
use Rattle.page_store.specs.Pairs.{Pair, found}
use Rattle.record_slots.specs.Places.{page_bytes, next_page}

-- a page on a key's way has a tree of its level under it, within bounds between which the key lies
pub record Way (root : Root) (bytes : List ℕ) (m q key low high : ℕ) : Type 0 where
  pub from : ℕ
  pub to : ℕ
  pub tree : IsTree root m bytes q from to
  pub from_key : from ≤ key
  pub key_to : key < to
  pub above : low ≤ from
  pub below : to ≤ high

wider_way : (root : Root) (bytes : List ℕ) (m q key low low' high high' : ℕ) → low' ≤ low → high ≤ high' → Way root bytes m q key low high → Way root bytes m q key low' high'
wider_way root bytes m q key low low' high high' a b w = record { from = w.from; to = w.to; tree = w.tree; from_key = w.from_key; key_to = w.key_to; above = omega (arith, w.above); below = omega (arith, w.below) }

pub above-le : (d m : ℕ) → m ≤ above d m
above-le zero m = omega arith
above-le (suc d) m = let h = above-le d m in omega arith

pub way_below : (root : Root) (d m : ℕ) (bytes : List ℕ) (key : ℕ)
    → ((page low high : ℕ) → IsTree root (above d m) bytes page low high → low ≤ key → key < high → Way root bytes m (page_for d bytes page key) key low high)
    → (es : List Pair) (high : ℕ) → 1 ≤ length es → AreBelow root.page (next_page bytes) es → AreSound (IsTree root (above d m) bytes) es high → next_low es high ≤ key → key < high
    → Way root bytes m (page_for d bytes (child_for es key) key) key (next_low es high) high
way_below root d m bytes key ih [] high some are sound le lt = absurd (omega arith)
way_below root d m bytes key ih (e ∷ []) high some are sound le lt = ih e.1 e.0 high sound.0 le lt
way_below root d m bytes key ih (e ∷ f ∷ es) high some are sound le lt =
    let rest = tile_bounds f.0 high (pieces_with (pairs_under (above d m) bytes) (f ∷ es)) (entries_tile root (above d m) bytes (f ∷ es) high are.2 sound.1) in
    let here = child_facts root (above d m) bytes e.1 e.0 f.0 are.0.1 sound.0 in
    elim (leb_tells (suc key) f.0) [
      | inl h ↦ let b : nat_lt key f.0 ≡ true = h.0 in rw b (wider_way root bytes m _ key e.0 e.0 f.0 high (omega arith) rest (ih e.1 e.0 f.0 sound.0 le h.1))
      | inr h ↦
          let b : nat_lt key f.0 ≡ false = h.0 in
          let step = way_below root d m bytes key ih (f ∷ es) high (omega arith) are.2 sound.1 (omega (arith, h.1)) lt in
          rw b (wider_way root bytes m _ key f.0 e.0 high high (omega (arith, here.1)) (omega arith) step)
    ]

-- so many levels down on a key's way
pub way_of : (root : Root) (d m : ℕ) (bytes : List ℕ) (key page low high : ℕ) → IsTree root (above d m) bytes page low high → low ≤ key → key < high → Way root bytes m (page_for d bytes page key) key low high
way_of root zero m bytes key page low high t le lt = record { from = low; to = high; tree = t; from_key = le; key_to = lt; above = omega arith; below = omega arith }
way_of root (suc d) m bytes key page low high t le lt =
    let some : 1 ≤ length (page_pairs bytes page) = omega (arith, t.0.some, length-page_pairs bytes page) in
    let start = start_of low high (page_pairs bytes page) some t.0.first in
    wider_way root bytes m _ key (next_low (page_pairs bytes page) high) low high high (omega arith) (omega arith)
    (way_below root d m bytes key (way_of root d m bytes key) (page_pairs bytes page) high some t.0.children t.1 (omega arith) lt)

-- what a page's pairs say of a key is what those of the key's child say
pub found_below : (f : ℕ → List Pair) (key : ℕ) (es : List Pair) (high : ℕ) → 1 ≤ length es → Tile (next_low es high) high (pieces_with f es) → next_low es high ≤ key → key < high
    → found (joined (pieces_with f es)) key ≡ found (f (child_for es key)) key
found_below f key [] high some t le lt = absurd (omega arith)
found_below f key (e ∷ []) high some t le lt = ap (λ (l : List Pair). found l key) (append-nil (f e.1))
found_below f key (e ∷ g ∷ es) high some t le lt =
    elim (leb_tells (suc key) g.0) [
      | inl h ↦ let b : nat_lt key g.0 ≡ true = h.0 in rw b (found-left e.0 g.0 high key (f e.1) (joined (pieces_with f (g ∷ es))) t.2 (joined_rises g.0 high (pieces_with f (g ∷ es)) t.3) h.1)
      | inr h ↦ let b : nat_lt key g.0 ≡ false = h.0 in
          rw b (found-right e.0 g.0 key (f e.1) (joined (pieces_with f (g ∷ es))) t.2 (omega (arith, h.1))
          ∙ found_below f key (g ∷ es) high (omega arith) t.3 (omega (arith, h.1)) lt)
    ]

-- a look-up follows the key's way
pub found_on_way : (root : Root) (d m : ℕ) (bytes : List ℕ) (key page low high : ℕ) → IsTree root (above d m) bytes page low high → low ≤ key → key < high
    → found (pairs_under (above d m) bytes page) key ≡ found (pairs_under m bytes (page_for d bytes page key)) key
found_on_way root zero m bytes key page low high t le lt = refl
found_on_way root (suc d) m bytes key page low high t le lt =
    let some : 1 ≤ length (page_pairs bytes page) = omega (arith, t.0.some, length-page_pairs bytes page) in
    let start = start_of low high (page_pairs bytes page) some t.0.first in
    let tile = entries_tile root (above d m) bytes (page_pairs bytes page) high t.0.children t.1 in
    let w = way_below root zero (above d m) bytes key (way_of root zero (above d m) bytes key) (page_pairs bytes page) high some t.0.children t.1 (omega arith) lt in
    found_below (pairs_under (above d m) bytes) key (page_pairs bytes page) high some tile (omega arith) lt
    ∙ found_on_way root d m bytes key (child_for (page_pairs bytes page) key) w.from w.to w.tree w.from_key w.key_to

-- no page below a page that is not the root is the root
under_some_other : (root : Root) (l : ℕ) (bytes : List ℕ) (q : ℕ) → ((page low high : ℕ) → page ≢ root.page → IsTree root l bytes page low high → IsUnder l bytes q page → q ≢ root.page)
    → (es : List Pair) (high : ℕ) → AreBelow root.page (next_page bytes) es → AreSound (IsTree root l bytes) es high → IsUnderSome (IsUnder l bytes q) es → q ≢ root.page
under_some_other root l bytes q ih [] high are sound u = absurd u
under_some_other root l bytes q ih (e ∷ es) high are sound (inl u) = ih e.1 e.0 (next_low es high) are.0.1 sound.0 u
under_some_other root l bytes q ih (e ∷ es) high are sound (inr u) = under_some_other root l bytes q ih es high are.2 sound.1 u

under_other : (root : Root) (l : ℕ) (bytes : List ℕ) (q page low high : ℕ) → page ≢ root.page → IsTree root l bytes page low high → IsUnder l bytes q page → q ≢ root.page
under_other root zero bytes q page low high other t u = λ same. other (sym u ∙ same)
under_other root (suc l) bytes q page low high other t (inl e) = λ same. other (sym e ∙ same)
under_other root (suc l) bytes q page low high other t (inr u) = under_some_other root l bytes q (under_other root l bytes q) (page_pairs bytes page) high t.0.children t.1 u

module _ (root : Root) (old new : List ℕ) (keeps : Keeps old new) (change : List Pair → List Pair) (key : ℕ) (local : IsLocal key change) (m q bound : ℕ) where
  pub graft_below : (l c : ℕ)
      → ((low high : ℕ) → IsTree root l old c low high → low ≤ key → key < high → high ≤ bound
      → ((x : ℕ) → IsUnder l old x c → (IsUnder m old x q → ⊥) → page_bytes new x ≡ page_bytes old x)
      → IsTree root l new c low high × (pairs_under l new c ≡ change (pairs_under l old c)))
      → ((low high : ℕ) → IsTree root l old c low high → low ≤ key → key < high → Way root old m q key low high)
      → (es : List Pair) (high : ℕ) → 1 ≤ length es → c ≡ child_for es key → AreBelow root.page (next_page old) es → AreSound (IsTree root l old) es high → next_low es high ≤ key → key < high → high ≤ bound
      → ((x : ℕ) → IsUnderSome (IsUnder l old x) es → (IsUnder m old x q → ⊥) → page_bytes new x ≡ page_bytes old x)
      → AreSound (IsTree root l new) es high × (joined (pieces_with (pairs_under l new) es) ≡ change (joined (pieces_with (pairs_under l old) es)))
  graft_below l c ih in_c [] high some is are sound le lt small kept = absurd (omega arith)
  graft_below l c ih in_c (e ∷ []) high some is are sound le lt small kept =
      let r = ih e.0 high (subst (λ (x : ℕ). IsTree root l old x e.0 high) (sym is) sound.0) le lt small (λ x u. kept x (inl (subst (λ (y : ℕ). IsUnder l old x y) is u))) in
      let r' : IsTree root l new e.1 e.0 high × (pairs_under l new e.1 ≡ change (pairs_under l old e.1)) =
      subst (λ (y : ℕ). IsTree root l new y e.0 high × (pairs_under l new y ≡ change (pairs_under l old y))) is r in
      ((r'.0, tt), ap (λ (ps : List Pair). ps ++ []) r'.1 ∙ sym (local.left high high (pairs_under l old e.1) [] (omega arith) lt))
  graft_below l c ih in_c (e ∷ f ∷ es) high some is are sound le lt small kept =
      let tile = entries_tile root l old (f ∷ es) high are.2 sound.1 in
      let end = tile_bounds f.0 high (pieces_with (pairs_under l old) (f ∷ es)) tile in
      let here = child_facts root l old e.1 e.0 f.0 are.0.1 sound.0 in
      elim (leb_tells (suc key) f.0) [
        | inl h ↦
            let b : nat_lt key f.0 ≡ true = h.0 in
            let is' : c ≡ e.1 = is ∙ (rw b refl) in
            let t' = subst (λ (x : ℕ). IsTree root l old x e.0 f.0) (sym is') sound.0 in
            let w = in_c e.0 f.0 t' le h.1 in
            let r = ih e.0 f.0 t' le h.1 (omega (arith, end)) (λ x u. kept x (inl (subst (λ (y : ℕ). IsUnder l old x y) is' u))) in
            let r' : IsTree root l new e.1 e.0 f.0 × (pairs_under l new e.1 ≡ change (pairs_under l old e.1)) =
            subst (λ (y : ℕ). IsTree root l new y e.0 f.0 × (pairs_under l new y ≡ change (pairs_under l old y))) is' r in
            let rest = below_kept root old new keeps l (tree_kept root old new keeps l) (f ∷ es) high sound.1
            (λ x u. kept x (inr u) (λ v.
            let other : x ≢ root.page = under_some_other root l old x (under_other root l old x) (f ∷ es) high are.2 sound.1 u in
            subs_apart root old x m l w.from w.to f.0 high other w.below (sub_of root m old x q w.from w.to w.tree v)
            (sub_below root l old x (sub_of root l old x) (f ∷ es) high are.2 sound.1 u))) in
            let split = local.left f.0 high (pairs_under l old e.1) (joined (pieces_with (pairs_under l old) (f ∷ es))) (joined_rises f.0 high (pieces_with (pairs_under l old) (f ∷ es)) tile) h.1 in
            ((r'.0, rest.0), (let one = r'.1 in let two = rest.1 in cc))
        | inr h ↦
            let b : nat_lt key f.0 ≡ false = h.0 in
            let is' : c ≡ child_for (f ∷ es) key = is ∙ (rw b refl) in
            let from : f.0 ≤ key = omega (arith, h.1) in
            let wc = way_below root zero l old key (way_of root zero l old key) (f ∷ es) high (omega arith) are.2 sound.1 from lt in
            let w = in_c wc.from wc.to (subst (λ (x : ℕ). IsTree root l old x wc.from wc.to) (sym is') wc.tree) wc.from_key wc.key_to in
            let first = tree_kept root old new keeps l e.1 e.0 f.0 sound.0
            (λ x u. kept x (inl u) (λ v.
            let other : x ≢ root.page = under_other root l old x e.1 e.0 f.0 are.0.1 sound.0 u in
            subs_apart root old x l m e.0 f.0 w.from w.to other (omega (arith, wc.above, w.above)) (sub_of root l old x e.1 e.0 f.0 sound.0 u)
            (sub_of root m old x q w.from w.to w.tree v))) in
            let rest = graft_below l c ih in_c (f ∷ es) high (omega arith) is' are.2 sound.1 from lt small (λ x u. kept x (inr u)) in
            let split = local.right e.0 f.0 (pairs_under l old e.1) (joined (pieces_with (pairs_under l old) (f ∷ es))) here.0 from in
            ((first.0, rest.0), (let one = first.1 in let two = rest.1 in cc))
      ]

  -- what happens to the tree under a page on the key's way happens to the whole tree, if all other pages are as they were
  pub graft : ((from to : ℕ) → IsTree root m old q from to → from ≤ key → key < to → to ≤ bound → IsTree root m new q from to × (pairs_under m new q ≡ change (pairs_under m old q)))
      → (d page low high : ℕ) → IsTree root (above d m) old page low high → low ≤ key → key < high → high ≤ bound → q ≡ page_for d old page key
      → ((x : ℕ) → IsUnder (above d m) old x page → (IsUnder m old x q → ⊥) → page_bytes new x ≡ page_bytes old x)
      → IsTree root (above d m) new page low high × (pairs_under (above d m) new page ≡ change (pairs_under (above d m) old page))
  graft changed zero page low high t le lt small is kept =
      let r = changed low high (subst (λ (x : ℕ). IsTree root m old x low high) (sym is) t) le lt small in
      subst (λ (x : ℕ). IsTree root m new x low high × (pairs_under m new x ≡ change (pairs_under m old x))) is r
  graft changed (suc d) page low high t le lt small is kept =
      let some : 1 ≤ length (page_pairs old page) = omega (arith, t.0.some, length-page_pairs old page) in
      let start = start_of low high (page_pairs old page) some t.0.first in
      let w : Way root old m q key low high = subst (λ (x : ℕ). Way root old m x key low high) (sym is) (way_of root (suc d) m old key page low high t le lt) in
      let here : page_bytes new page ≡ page_bytes old page = kept page (inl refl) (λ u.
      let sub = sub_of root m old page q w.from w.to w.tree u in
      omega (arith, sub.most, above-le d m, tree_level root sub.m old page sub.from sub.to sub.tree, t.0.level_is)) in
      let c : ℕ = child_for (page_pairs old page) key in
      let below = graft_below (above d m) c
      (λ low' high' t' le' lt' small' kept'. graft changed d c low' high' t' le' lt' small' is kept')
      (λ low' high' t' le' lt'. subst (λ (x : ℕ). Way root old m x key low' high') (sym is) (way_of root d m old key c low' high' t' le' lt'))
      (page_pairs old page) high some refl t.0.children t.1 (omega arith) lt small (λ x u. kept x (inr u)) in (
        (inner_kept root old new keeps (suc (above d m)) page low here t.0, subst (λ (b : List ℕ). AreSound (IsTree root (above d m) new) (pairs_said b) high) (sym here) below.0),
        ap (λ (b : List ℕ). joined (pieces_with (pairs_under (above d m) new) (pairs_said b))) here ∙ below.1,
      )

-- the child that a page names is given out
pub child_given : (root : Root) (bytes : List ℕ) (es : List Pair) (key : ℕ) → 1 ≤ length es → AreBelow root.page (next_page bytes) es → ((2 ≤ child_for es key) × (child_for es key ≢ root.page)) × (child_for es key < next_page bytes)
child_given root bytes [] key some are = absurd (omega arith)
child_given root bytes (e ∷ []) key some are = (are.0, are.1)
child_given root bytes (e ∷ f ∷ es) key some are =
    elim (leb_tells (suc key) f.0) [
      | inl h ↦ let b : nat_lt key f.0 ≡ true = h.0 in rw b (are.0, are.1)
      | inr h ↦ let b : nat_lt key f.0 ≡ false = h.0 in rw b (child_given root bytes (f ∷ es) key (omega arith) are.2)
    ]

pub way_own : (root : Root) (d m : ℕ) (bytes : List ℕ) (key page low high : ℕ) → IsOwn bytes page → IsTree root (above d m) bytes page low high → low ≤ key → key < high → IsOwn bytes (page_for d bytes page key)
way_own root zero m bytes key page low high own t le lt = own
way_own root (suc d) m bytes key page low high own t le lt =
    let some : 1 ≤ length (page_pairs bytes page) = omega (arith, t.0.some, length-page_pairs bytes page) in
    let start = start_of low high (page_pairs bytes page) some t.0.first in
    let given = child_given root bytes (page_pairs bytes page) key some t.0.children in
    let w = way_below root zero (above d m) bytes key (way_of root zero (above d m) bytes key) (page_pairs bytes page) high some t.0.children t.1 (omega arith) lt in
    way_own root d m bytes key (child_for (page_pairs bytes page) key) w.from w.to (omega (arith, given.0.0), given.1) w.tree w.from_key w.key_to

-- a look-up goes to the leaf of its key
pub sound_tree_finds : (root : Root) (bytes : List ℕ) (key : ℕ) → IsSoundTree root bytes → key < key_end → found (pairs_of_tree bytes root.page) key ≡ found (page_pairs bytes (leaf_for bytes root.page key)) key
unfolding pairs_of_tree
sound_tree_finds root bytes key sound lt =
    let e = above_zero (level_of bytes root.page) in
    ap (λ (n : ℕ). found (pairs_under n bytes root.page) key) (sym e)
    ∙ found_on_way root (level_of bytes root.page) 0 bytes key root.page 0 key_end (subst (λ (n : ℕ). IsTree root n bytes root.page 0 key_end) (sym e) sound.2) (omega arith) lt

-- a page below a child of an entry is below some entry
pub child_some : (P : ℕ → Type 0) (es : List Pair) (key : ℕ) → 1 ≤ length es → P (child_for es key) → IsUnderSome P es
child_some P [] key some p = absurd (omega arith)
child_some P (e ∷ []) key some p = inl p
child_some P (e ∷ f ∷ es) key some p =
    elim (leb_tells (suc key) f.0) [
      | inl h ↦ let b : nat_lt key f.0 ≡ true = h.0 in let is : child_for (e ∷ f ∷ es) key ≡ e.1 = (rw b refl) in inl (subst P is p)
      | inr h ↦ let b : nat_lt key f.0 ≡ false = h.0 in let is : child_for (e ∷ f ∷ es) key ≡ child_for (f ∷ es) key = (rw b refl) in inr (child_some P (f ∷ es) key (omega arith) (subst P is p))
    ]

-- a page below a page on a key's way is below the page where the way begins
pub way_under : (root : Root) (d m : ℕ) (bytes : List ℕ) (key page low high x : ℕ) → IsTree root (above d m) bytes page low high → low ≤ key → key < high
    → IsUnder m bytes x (page_for d bytes page key) → IsUnder (above d m) bytes x page
way_under root zero m bytes key page low high x t le lt u = u
way_under root (suc d) m bytes key page low high x t le lt u =
    let some : 1 ≤ length (page_pairs bytes page) = omega (arith, t.0.some, length-page_pairs bytes page) in
    let start = start_of low high (page_pairs bytes page) some t.0.first in
    let w = way_below root zero (above d m) bytes key (way_of root zero (above d m) bytes key) (page_pairs bytes page) high some t.0.children t.1 (omega arith) lt in
    inr (child_some (IsUnder (above d m) bytes x) (page_pairs bytes page) key some
    (way_under root d m bytes key (child_for (page_pairs bytes page) key) w.from w.to x w.tree w.from_key w.key_to u))

-- one level further down
pub page_for_last : (d : ℕ) (bytes : List ℕ) (page key : ℕ) → page_for (suc d) bytes page key ≡ child_for (page_pairs bytes (page_for d bytes page key)) key
page_for_last zero bytes page key = refl
page_for_last (suc d) bytes page key = page_for_last d bytes (child_for (page_pairs bytes page) key) key
