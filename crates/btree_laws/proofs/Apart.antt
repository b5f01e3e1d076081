-- No page occurs twice in a sound tree.
use Rattle.std.proofs.Common.{◌≡◌, ◌≢◌, ℕ, zero, suc, ◌<◌, ◌≤◌, inl, inr, List, [], ◌∷◌, length, length-append, sym, ◌∙◌, subst, arith}
use Rattle.record_slots.specs.Places.{next_page}
use Rattle.btree_laws.specs.Sound.{AreBelow, AreSound, IsTree}
use Rattle.btree_laws.specs.declared.root.Root.{Root}
use Rattle.btree_laws.specs.Tree.{IsUnder, IsUnderSome, next_low, pairs_under, pieces_with}
use Rattle.btree_laws.specs.TreeFacts.{children_tile, tree_level, tree_rises, tree_wide}
use Rattle.index_pages.proofs.PageFacts.{length-page_pairs}
use Rattle.index_pages.proofs.Rising.{key_at-bounds}
use Rattle.index_pages.proofs.Tiling.{tile_bounds}
use Rattle.index_pages.specs.Page.{page_pairs}
use Rattle.index_pages.specs.Pieces.{joined, Tile}
use Rattle.page_store.specs.Pairs.{Pair, Rise}

-- a page of a tree has a tree of its level under it, within bounds of its own
pub record Sub (root : Root) (bytes : List ℕ) (q l low high : ℕ) : Type 0 where
  pub m : ℕ
  pub from : ℕ
  pub to : ℕ
  pub tree : IsTree root m bytes q from to
  pub above : low ≤ from
  pub below : to ≤ high
  pub most : m ≤ l

first_some : (root : Root) (f : ℕ → List Pair) (Is : ℕ → ℕ → ℕ → Type 0) → ((page low high : ℕ) → page ≢ root.page → Is page low high → 1 ≤ length (f page))
    → (bytes : List ℕ) (es : List Pair) (high : ℕ) → 1 ≤ length es → AreBelow root.page (next_page bytes) es → AreSound Is es high → 1 ≤ length (joined (pieces_with f es))
first_some root f Is fact bytes [] high some are sound = absurd (omega arith)
first_some root f Is fact bytes (e ∷ es) high some are sound =
    let h = fact e.1 e.0 (next_low es high) are.0.1 sound.0 in
    omega (arith, h, length-append (f e.1) (joined (pieces_with f es)))

-- no tree but that of the root is empty
pub tree_some : (root : Root) (m : ℕ) (bytes : List ℕ) (q low high : ℕ) → IsTree root m bytes q low high → q ≢ root.page → 1 ≤ length (pairs_under m bytes q)
tree_some root zero bytes q low high t other = omega (arith, t.0.some other, length-page_pairs bytes q)
tree_some root (suc m) bytes q low high t other =
    first_some root (pairs_under m bytes) (IsTree root m bytes) (λ (c low' high' : ℕ) (away : c ≢ root.page) (sub : IsTree root m bytes c low' high'). tree_some root m bytes c low' high' sub away)
    bytes (page_pairs bytes q) high (omega (arith, t.0.some, length-page_pairs bytes q)) t.0.children t.1

pub child_facts : (root : Root) (l : ℕ) (bytes : List ℕ) (page low high : ℕ) → page ≢ root.page → IsTree root l bytes page low high → Rise low high (pairs_under l bytes page) × (low < high)
child_facts root l bytes page low high other t = (tree_rises root l bytes page low high t, tree_wide root l bytes page low high t other)

pub entries_tile : (root : Root) (l : ℕ) (bytes : List ℕ) (es : List Pair) (high : ℕ) → AreBelow root.page (next_page bytes) es → AreSound (IsTree root l bytes) es high → Tile (next_low es high) high (pieces_with (pairs_under l bytes) es)
entries_tile root l bytes es high are sound = children_tile root (pairs_under l bytes) (IsTree root l bytes) (child_facts root l bytes) bytes es high are sound

wider : (root : Root) (bytes : List ℕ) (q l l' low low' high high' : ℕ) → low' ≤ low → high ≤ high' → l ≤ l' → Sub root bytes q l low high → Sub root bytes q l' low' high'
wider root bytes q l l' low low' high high' a b c s = record { m = s.m; from = s.from; to = s.to; tree = s.tree; above = omega (arith, s.above); below = omega (arith, s.below); most = omega (arith, s.most) }

pub sub_below : (root : Root) (l : ℕ) (bytes : List ℕ) (q : ℕ) → ((page low high : ℕ) → IsTree root l bytes page low high → IsUnder l bytes q page → Sub root bytes q l low high)
    → (es : List Pair) (high : ℕ) → AreBelow root.page (next_page bytes) es → AreSound (IsTree root l bytes) es high → IsUnderSome (IsUnder l bytes q) es → Sub root bytes q l (next_low es high) high
sub_below root l bytes q ih [] high are sound u = absurd u
sub_below root l bytes q ih (e ∷ es) high are sound (inl u) =
    let rest = tile_bounds (next_low es high) high (pieces_with (pairs_under l bytes) es) (entries_tile root l bytes es high are.2 sound.1) in
    wider root bytes q l l e.0 e.0 (next_low es high) high (omega arith) rest (omega arith) (ih e.1 e.0 (next_low es high) sound.0 u)
sub_below root l bytes q ih (e ∷ es) high are sound (inr u) =
    let w = child_facts root l bytes e.1 e.0 (next_low es high) are.0.1 sound.0 in
    wider root bytes q l l (next_low es high) e.0 high high (omega (arith, w.1)) (omega arith) (omega arith) (sub_below root l bytes q ih es high are.2 sound.1 u)

pub start_of : (low high : ℕ) (es : List Pair) → 1 ≤ length es → next_low es low ≡ low → next_low es high ≡ low
start_of low high [] some e = absurd (omega arith)
start_of low high (x ∷ es) some e = e

pub sub_of : (root : Root) (l : ℕ) (bytes : List ℕ) (q page low high : ℕ) → IsTree root l bytes page low high → IsUnder l bytes q page → Sub root bytes q l low high
sub_of root zero bytes q page low high t u =
    record { m = 0; from = low; to = high; tree = subst (λ (x : ℕ). IsTree root 0 bytes x low high) (sym u) t; above = omega arith; below = omega arith; most = omega arith }
sub_of root (suc l) bytes q page low high t (inl e) =
    record { m = suc l; from = low; to = high; tree = subst (λ (x : ℕ). IsTree root (suc l) bytes x low high) (sym e) t; above = omega arith; below = omega arith; most = omega arith }
sub_of root (suc l) bytes q page low high t (inr u) =
    let start : next_low (page_pairs bytes page) high ≡ low = start_of low high (page_pairs bytes page) (omega (arith, t.0.some, length-page_pairs bytes page)) t.0.first in
    wider root bytes q l (suc l) (next_low (page_pairs bytes page) high) low high high (omega arith) (omega arith) (omega arith)
    (sub_below root l bytes q (sub_of root l bytes q) (page_pairs bytes page) high t.0.children t.1 u)

-- trees over two disjoint ranges have no page in common
pub subs_apart : (root : Root) (bytes : List ℕ) (q l l' low mid mid' high : ℕ) → q ≢ root.page → mid ≤ mid' → Sub root bytes q l low mid → Sub root bytes q l' mid' high → ⊥
subs_apart root bytes q l l' low mid mid' high other le s t =
    let e : t.m ≡ s.m = sym (tree_level root t.m bytes q t.from t.to t.tree) ∙ tree_level root s.m bytes q s.from s.to s.tree in
    let tree : IsTree root s.m bytes q t.from t.to = subst (λ (m : ℕ). IsTree root m bytes q t.from t.to) e t.tree in
    let some = tree_some root s.m bytes q s.from s.to s.tree other in
    let a = key_at-bounds 0 s.from s.to (pairs_under s.m bytes q) some (tree_rises root s.m bytes q s.from s.to s.tree) in
    let b = key_at-bounds 0 t.from t.to (pairs_under s.m bytes q) some (tree_rises root s.m bytes q t.from t.to tree) in
    omega (arith, a.1, b.0, s.below, t.above)
