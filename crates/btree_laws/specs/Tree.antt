-- The tree of a table. An inner page has pairs of a low key and a child, a leaf has pairs of a key and a slot.
use Rattle.std.specs.Prelude.{ℕ, zero, suc, ◌≡◌, ◌≢◌, ◌<◌, ◌≤◌, ◌⊎◌, List, [], ◌∷◌, map, slice_index_or}
use Rattle.std.specs.List.{AllByRecursion, flat_map}
use Rattle.mars_base.specs.Check.{Check, pass, test, both, each}
use Rattle.index_pages.specs.Keys.{key_end}
use Rattle.index_pages.specs.Page.{kind_said, level_of, count_of, link_of, page_pairs}
use Rattle.index_pages.specs.Pieces.{Piece}
use Rattle.index_pages.specs.Slots.{slot_check}
use Rattle.page_store.specs.Pairs.{Pair, Rise}
use Rattle.record_slots.specs.Places.{page_bytes, next_page}
use Rattle.btree_laws.specs.declared.root.Root.{Root}

-- a leaf with keys from the lower bound on and below the upper bound; only the root may be empty
pub record IsLeafPage (root : ℕ) (bytes : List ℕ) (page low high : ℕ) : Type 0 where
  pub kind : kind_said (page_bytes bytes page) ≡ 1
  pub level : level_of bytes page ≡ 0
  pub link : link_of bytes page ≡ 0
  pub most : count_of bytes page ≤ 30
  pub some : page ≢ root → 1 ≤ count_of bytes page
  pub rises : Rise low high (page_pairs bytes page)

-- the children of these entries are among so many given pages
abbrev pub AreChildren : ℕ → List Pair → Type 0
AreChildren pages entries = AllByRecursion (λ entry. (2 ≤ entry.1) × (entry.1 < pages)) entries

-- the low key of the next entry, or the upper bound if there is none
abbrev pub next_low : List Pair → ℕ → ℕ
next_low entries high = (slice_index_or entries 0 (high, 0)).0

-- an inner page of this level, whose first low key is the lower bound, and whose children are such, among the pages that are given out
pub record IsInner (Are : ℕ → List Pair → Type 0) (bytes : List ℕ) (level page low : ℕ) : Type 0 where
  pub kind : kind_said (page_bytes bytes page) ≡ 2
  pub level_is : level_of bytes page ≡ level
  pub link : link_of bytes page ≡ 0
  pub some : 1 ≤ count_of bytes page
  pub most : count_of bytes page ≤ 30
  pub first : next_low (page_pairs bytes page) low ≡ low
  pub rises : Rise low key_end (page_pairs bytes page)
  pub children : Are (next_page bytes) (page_pairs bytes page)

-- the children of a page from left to right, each from its own low key up to the next one
abbrev pub children_check : (ℕ → ℕ → ℕ → Check ℕ) → List Pair → ℕ → Check ℕ
children_check check [] high = pass
children_check check (e ∷ es) high = both (check e.1 e.0 (next_low es high)) (children_check check es high)

-- a tree of this level under a page, with the keys between these bounds: the page itself, and then its slots or its children
abbrev pub tree_from : Root → ℕ → List ℕ → ℕ → ℕ → ℕ → Check ℕ
tree_from root zero bytes page low high = both (test (IsLeafPage root.page bytes page low high) page) (each (slot_check bytes root.table page) (page_pairs bytes page))
tree_from root (suc l) bytes page low high = both (test (IsInner AreChildren bytes (suc l) page low) page) (children_check (tree_from root l bytes) (page_pairs bytes page) high)

-- the whole tree, from its root down
abbrev pub tree_check : Root → List ℕ → Check ℕ
tree_check root bytes = both (test (level_of bytes root.page ≤ 7) root.page) (tree_from root (level_of bytes root.page) bytes root.page 0 key_end)

-- the pairs under each child, with its low key
abbrev pub pieces_with : (ℕ → List Pair) → List Pair → List Piece
pieces_with f entries = map (λ entry. (entry.0, f entry.1)) entries

-- the pairs of the leaves from left to right: those under each child with its low key, and then all of these
abbrev pub pairs_under : ℕ → List ℕ → ℕ → List Pair
pairs_under zero bytes page = page_pairs bytes page
pairs_under (suc l) bytes page = flat_map (λ (piece : ℕ × List Pair). piece.1) (map (λ (entry : Pair). (entry.0, pairs_under l bytes entry.1)) (page_pairs bytes page))

abbrev pub pieces_under : ℕ → List ℕ → ℕ → List Piece
pieces_under l bytes page = pieces_with (pairs_under l bytes) (page_pairs bytes page)

unfoldable pub pairs_of_tree : List ℕ → ℕ → List Pair
pairs_of_tree bytes root = pairs_under (level_of bytes root) bytes root

-- a page is among the pages of the trees under these entries
abbrev pub IsUnderSome : (ℕ → Type 0) → List Pair → Type 0
IsUnderSome P [] = ⊥
IsUnderSome P (e ∷ es) = P e.1 ⊎ IsUnderSome P es

abbrev pub IsUnder : ℕ → List ℕ → ℕ → ℕ → Type 0
IsUnder zero bytes q page = q ≡ page
IsUnder (suc l) bytes q page = (q ≡ page) ⊎ IsUnderSome (IsUnder l bytes q) (page_pairs bytes page)

-- a page of the tree
abbrev pub IsPageOfTree : List ℕ → ℕ → ℕ → Type 0
IsPageOfTree bytes root page = IsUnder (level_of bytes root) bytes page root
