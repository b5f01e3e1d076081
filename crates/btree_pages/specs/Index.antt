-- Trees as an index: the tree of each table, its pages, and the actions of an insertion and of a removal.
use Rattle.std.specs.Prelude.{ℕ, zero, suc, ◌≡◌, nat_eq, nat_lt, nat_le, ◌-◌, ◌&&◌, ◌||◌, if◌then◌else◌, List, [], ◌∷◌, Option, Some, None}
use Rattle.std.specs.List.{find}
use Rattle.std.specs.Option.{unwrap_or}
use Rattle.mars_base.specs.Check.{Check}
use Rattle.record_slots.specs.Places.{first_slot_page, slot_page, slot_due, page_due}
use Rattle.page_store.specs.Access.{Access}
use Rattle.page_store.specs.Index.{Action, Index}
use Rattle.page_store.specs.Pairs.{Pair}
use Rattle.index_pages.specs.Actions.{adding, half_for}
use Rattle.index_pages.specs.Page.{level_of, count_of, page_pairs}
use Rattle.index_pages.specs.Slots.{index_check}
use Rattle.index_pages.specs.Within.{within}
use Rattle.btree_laws.specs.Descent.{child_for, page_for, leaf_for}
use Rattle.btree_pages.specs.Downward.{tree_finding, tree_nexting, tree_placing}
use Rattle.btree_pages.specs.Testing.{tree_testing}
use Rattle.btree_laws.specs.Removals.{right_of}
use Rattle.btree_laws.specs.Tree.{tree_check, pairs_of_tree, IsPageOfTree}

-- the tree of a table, as its root and its number tell it
abbrev pub tree_of : List ℕ → ℕ → ℕ → Check ℕ
tree_of bytes root table = tree_check (record { page = root; table = table }) bytes

-- data where the trees of all tables are sound; and the page that fails first
abbrev pub AreSoundTrees : List ℕ → Type 0
AreSoundTrees bytes = index_check 1 tree_of bytes None

abbrev pub IsFirstDamagedOfTrees : List ℕ → ℕ → Type 0
IsFirstDamagedOfTrees bytes page = index_check 1 tree_of bytes (Some page)

-- what splits a full page: the page, the page that is taken for its upper part, the parent, the super page
abbrev pub cutting : ℕ → ℕ → ℕ → Action
cutting page taken parent = record { pages = page ∷ taken ∷ parent ∷ 0 ∷ []; takes = 1 }

-- what splits a full root
abbrev pub growing : List ℕ → ℕ → Action
growing bytes root = record {
  pages = page_due bytes 0 ∷ page_due bytes 1 ∷ root ∷ 0 ∷ [];
  takes = if nat_lt (level_of bytes root) 7 then 2 else first_slot_page bytes;
}

-- The actions on the way down to a key, from a page with room that is this many levels above the leaves. What that page said before the
-- insertion is now in page `now`, and so many pages were taken before. A full child is split: the child, the page that is taken for its upper
-- part, its parent, the super page.
abbrev pub actions_below : ℕ → List ℕ → ℕ → ℕ → ℕ → ℕ → List Action
actions_below zero bytes page now taken key = adding bytes now ∷ []
actions_below (suc d) bytes page now taken key =
    let child = child_for (page_pairs bytes page) key in let upper = page_due bytes taken in
    if nat_lt (count_of bytes child) 30 then actions_below d bytes child child taken key
    else record { pages = child ∷ upper ∷ now ∷ 0 ∷ []; takes = 1 }
    ∷ actions_below d bytes child (half_for (page_pairs bytes child) child upper key) (suc taken) key

-- The actions from the root down. A full root is split: the two pages that are taken for its parts, the root, the super page. A root of level 7
-- cannot be split: the action counts as taking more pages than are left.
abbrev pub tree_actions : List ℕ → ℕ → ℕ → List Action
tree_actions bytes root key =
    let level = level_of bytes root in let left = page_due bytes 0 in let right = page_due bytes 1 in
    if nat_lt (count_of bytes root) 30 then actions_below level bytes root root 0 key
    else record { pages = left ∷ right ∷ root ∷ 0 ∷ []; takes = if nat_lt level 7 then 2 else first_slot_page bytes }
    ∷ actions_below level bytes root (half_for (page_pairs bytes root) left right key) 2 key

-- the key's leaf has these pairs, and adding a pair to it is all that an insertion does: no page on the way is full
pub record IsOpenLeaf (bytes : List ℕ) (root key page : ℕ) (pairs : List Pair) : Type 0 where
  pub page_is : page ≡ leaf_for bytes root key
  pub pairs_are : pairs ≡ page_pairs bytes page
  pub alone : tree_actions bytes root key ≡ adding bytes page ∷ []

-- The removal of a key that is there. A leaf that is the root, or has other pairs, loses the pair. Else it takes those of the page to its
-- right, which is freed; or it is the last of its parent, and is freed itself. The last pair of an only child stays.
abbrev pub tree_removal : List ℕ → ℕ → ℕ → Option (List ℕ)
tree_removal bytes root key =
    let level = level_of bytes root in
    let leaf = page_for level bytes root key in let parent = page_for (level - 1) bytes root key in
    let right = right_of (page_pairs bytes parent) key in
    let at = slot_page bytes (unwrap_or (find (λ pair. nat_eq pair.0 key) (pairs_of_tree bytes root)) (0, 0)).1 in
    if nat_le 1 level && (nat_le (count_of bytes leaf) 1 && nat_le (count_of bytes parent) 1) then None
    else Some (if nat_eq level 0 || nat_le 2 (count_of bytes leaf) then at ∷ leaf ∷ 0 ∷ []
    else if nat_eq right 0 then at ∷ parent ∷ leaf ∷ 0 ∷ [] else at ∷ leaf ∷ parent ∷ right ∷ 0 ∷ [])

abbrev pub tree : Index
tree = record {
  sound = λ bytes. index_check 1 tree_of bytes None;
  fails = λ bytes page. index_check 1 tree_of bytes (Some page);
  pairs = pairs_of_tree;
  level = level_of;
  has_page = IsPageOfTree;
  actions = tree_actions;
  removal = tree_removal;
}

-- how trees are read
abbrev pub tree_access : Access
tree_access = record {
  fits = λ bytes root key page link pairs. IsOpenLeaf bytes root key page pairs;
  finding = tree_finding;
  nexting = tree_nexting;
  placing = tree_placing;
  testing = tree_testing;
}

-- The index for the rest of an insertion, from a page on its way that has room and is this many levels above the leaves. Its actions are
-- those from there on, and sound data has at most this many pages given out.
abbrev pub tree_below : ℕ → ℕ → ℕ → Index
tree_below page level most = within tree most (λ bytes root key. actions_below level bytes page page 0 key)
