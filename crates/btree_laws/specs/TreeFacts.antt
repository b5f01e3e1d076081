-- What the pairs of a sound tree are like.
use Rattle.std.proofs.Common.{◌≡◌, ◌≢◌, ℕ, zero, suc, ◌<◌, ◌≤◌, inl, inr, List, [], ◌∷◌, length, refl, ap, subst, arith}
use Rattle.record_slots.specs.Places.{next_page}
use Rattle.btree_laws.specs.Sound.{AreBelow, AreSound, IsSoundTree, IsTree}
use Rattle.btree_laws.specs.declared.root.Root.{Root}
use Rattle.btree_laws.specs.Tree.{IsUnder, IsUnderSome, next_low, pairs_of_tree, pairs_under, pieces_under, pieces_with}
use Rattle.index_pages.proofs.Tiling.{tile_bounds, joined_rises}
use Rattle.index_pages.specs.Keys.{key_end}
use Rattle.index_pages.specs.Page.{page_pairs, level_of}
use Rattle.index_pages.specs.Pieces.{Piece, low_of, Tile}
use Rattle.index_pages.specs.Ways.{IsOwn}
use Rattle.page_store.specs.Pairs.{Pair, Rise}
use Rattle.index_pages.proofs.PageFacts.{length-page_pairs, rise_wide}

pub low_of-pieces : (f : ℕ → List Pair) (es : List Pair) (high : ℕ) → low_of (pieces_with f es) high ≡ next_low es high
low_of-pieces f [] high = refl
low_of-pieces f (e ∷ es) high = refl

pub children_tile : (root : Root) (f : ℕ → List Pair) (Is : ℕ → ℕ → ℕ → Type 0)
    → ((page low high : ℕ) → page ≢ root.page → Is page low high → Rise low high (f page) × (low < high))
    → (bytes : List ℕ) (es : List Pair) (high : ℕ) → AreBelow root.page (next_page bytes) es → AreSound Is es high → Tile (next_low es high) high (pieces_with f es)
children_tile root f Is fact bytes [] high are sound = refl
children_tile root f Is fact bytes (e ∷ es) high are sound =
    let here = fact e.1 e.0 (next_low es high) are.0.1 sound.0 in
    let rest = children_tile root f Is fact bytes es high are.2 sound.1 in
    rw (low_of-pieces f es high) (refl, here.1, here.0, rest)

pub tile_wide : (low high : ℕ) (pieces : List Piece) → 1 ≤ length pieces → Tile low high pieces → low < high
tile_wide low high [] some t = absurd (omega arith)
tile_wide low high (p ∷ ps) some t = let h = tile_bounds (low_of ps high) high ps t.3 in omega arith

pub length-pieces : (f : ℕ → List Pair) (es : List Pair) → length (pieces_with f es) ≡ length es
length-pieces f [] = refl
length-pieces f (e ∷ es) = ap suc (length-pieces f es)

-- the first entry begins at the lower bound
first_low : (low high : ℕ) (es : List Pair) → 1 ≤ length es → next_low es low ≡ low → next_low es high ≡ low
first_low low high [] some e = absurd (omega arith)
first_low low high (x ∷ es) some e = e

abbrev Facts : Root → ℕ → List ℕ → Type 0
Facts root l bytes = (page low high : ℕ) → IsTree root l bytes page low high → Rise low high (pairs_under l bytes page) × (page ≢ root.page → low < high)

inner_tiles : (root : Root) (l : ℕ) (bytes : List ℕ) → Facts root l bytes → (page low high : ℕ) → IsTree root (suc l) bytes page low high → Tile low high (pieces_under l bytes page)
inner_tiles root l bytes facts page low high t =
    let len = length-page_pairs bytes page in
    let start = first_low low high (page_pairs bytes page) (omega (arith, t.0.some)) t.0.first in
    let tile = children_tile root (pairs_under l bytes) (IsTree root l bytes)
    (λ (q low' high' : ℕ) (other : q ≢ root.page) (sub : IsTree root l bytes q low' high'). let h = facts q low' high' sub in (h.0, h.1 other))
    bytes (page_pairs bytes page) high t.0.children t.1 in
    subst (λ (x : ℕ). Tile x high (pieces_under l bytes page)) start tile

tree_facts : (root : Root) (l : ℕ) (bytes : List ℕ) → Facts root l bytes
tree_facts root zero bytes page low high t =
    let len = length-page_pairs bytes page in
    (t.0.rises, λ (other : page ≢ root.page). rise_wide low high (page_pairs bytes page) (omega (arith, t.0.some other)) t.0.rises)
tree_facts root (suc l) bytes page low high t =
    let tile = inner_tiles root l bytes (tree_facts root l bytes) page low high t in
    let len = length-page_pairs bytes page in
    let len' = length-pieces (pairs_under l bytes) (page_pairs bytes page) in
    (joined_rises low high (pieces_under l bytes page) tile, λ (_ : page ≢ root.page). tile_wide low high (pieces_under l bytes page) (omega (arith, t.0.some)) tile)

-- the pairs under the children of an inner page tile its range
pub tree_tiles : (root : Root) (l : ℕ) (bytes : List ℕ) (page low high : ℕ) → IsTree root (suc l) bytes page low high → Tile low high (pieces_under l bytes page)
tree_tiles root l bytes = inner_tiles root l bytes (tree_facts root l bytes)

-- the pairs of a tree rise within its bounds
pub tree_rises : (root : Root) (l : ℕ) (bytes : List ℕ) (page low high : ℕ) → IsTree root l bytes page low high → Rise low high (pairs_under l bytes page)
tree_rises root l bytes page low high t = (tree_facts root l bytes page low high t).0

-- no tree but that of the root is empty
pub tree_wide : (root : Root) (l : ℕ) (bytes : List ℕ) (page low high : ℕ) → IsTree root l bytes page low high → page ≢ root.page → low < high
tree_wide root l bytes page low high t = (tree_facts root l bytes page low high t).1

pub sound_tree_rises : (root : Root) (bytes : List ℕ) → IsSoundTree root bytes → Rise 0 key_end (pairs_of_tree bytes root.page)
unfolding pairs_of_tree
sound_tree_rises root bytes sound = tree_rises root _ bytes root.page 0 key_end sound.2

-- the root of a tree has the tree's level
pub tree_level : (root : Root) (m : ℕ) (bytes : List ℕ) (q low high : ℕ) → IsTree root m bytes q low high → level_of bytes q ≡ m
tree_level root zero bytes q low high t = t.0.level
tree_level root (suc m) bytes q low high t = t.0.level_is

-- its pages are given out
under_some_own : (root : Root) (l : ℕ) (bytes : List ℕ) (q : ℕ) → ((page low high : ℕ) → IsOwn bytes page → IsTree root l bytes page low high → IsUnder l bytes q page → IsOwn bytes q)
    → (es : List Pair) (high : ℕ) → AreBelow root.page (next_page bytes) es → AreSound (IsTree root l bytes) es high → IsUnderSome (IsUnder l bytes q) es → IsOwn bytes q
under_some_own root l bytes q ih [] high are sound u = absurd u
under_some_own root l bytes q ih (e ∷ es) high are sound (inl u) = ih e.1 e.0 (next_low es high) (omega (arith, are.0.0), are.1) sound.0 u
under_some_own root l bytes q ih (e ∷ es) high are sound (inr u) = under_some_own root l bytes q ih es high are.2 sound.1 u

pub under_own : (root : Root) (l : ℕ) (bytes : List ℕ) (q page low high : ℕ) → IsOwn bytes page → IsTree root l bytes page low high → IsUnder l bytes q page → IsOwn bytes q
under_own root zero bytes q page low high own t u = (omega (arith, own.0), omega (arith, own.1))
under_own root (suc l) bytes q page low high own t (inl e) = (omega (arith, own.0), omega (arith, own.1))
under_own root (suc l) bytes q page low high own t (inr u) = under_some_own root l bytes q (under_own root l bytes q) (page_pairs bytes page) high t.0.children t.1 u
