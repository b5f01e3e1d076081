-- How the test of trees goes from page to page, over any store.
use Rattle.std.specs.Prelude.{ℕ, zero, suc, ◌≡◌, ◌≢◌, ◌≤◌, List, [], ◌∷◌, None}
use Rattle.array_shape.specs.declared.shape.Shape.{Shape}
use Rattle.record_slots.specs.declared.super_page.Super.{Super}
use Rattle.page_store.specs.Index.{index_pages_of}
use Rattle.page_store.specs.Pairs.{Pair, Rise}
use Rattle.page_store.specs.Tested.{Plan, at_end, holding, reading, in_turn}
use Rattle.index_pages.specs.Keys.{key_end}
use Rattle.index_pages.specs.Page.{level_said, count_said, pairs_said}
use Rattle.index_pages.specs.Plans.{slots_plan, index_plan}
use Rattle.btree_laws.specs.Tree.{AreChildren, next_low}
use Rattle.btree_pages.specs.Node.{IsNode}

-- a leaf with keys from the lower bound on and below the upper bound; only the root may be empty
pub record IsLeafSaid (root page low high : ℕ) (said : List ℕ) : Type 0 where
  pub node : IsNode said
  pub level : level_said said ≡ 0
  pub some : page ≢ root → 1 ≤ count_said said
  pub rises : Rise low high (pairs_said said)

-- an inner page of this level, whose first low key is the lower bound, and whose children are among so many given pages
pub record IsInnerSaid (pages level low : ℕ) (said : List ℕ) : Type 0 where
  pub node : IsNode said
  pub level_is : level_said said ≡ level
  pub first : next_low (pairs_said said) low ≡ low
  pub rises : Rise low key_end (pairs_said said)
  pub children : AreChildren pages (pairs_said said)

-- the children of a page from left to right, each from its own low key up to the next one
abbrev pub children_plan : (ℕ → ℕ → ℕ → Plan) → List Pair → ℕ → Plan
children_plan test [] high = at_end
children_plan test (e ∷ es) high = in_turn (test e.1 e.0 (next_low es high)) (children_plan test es high)

-- A page that was read, of a tree of this level under it, with the keys between these bounds: the page itself, and then its slots, or each of its
-- children with all that is below.
abbrev pub page_plan : Shape → Super → (root table level : ℕ) → (page low high : ℕ) → List ℕ → Plan
page_plan shape front root table zero page low high said =
    holding (IsLeafSaid root page low high said) page (slots_plan (index_pages_of shape) front.next_slot table page None (pairs_said said))
page_plan shape front root table (suc l) page low high said =
    holding (IsInnerSaid front.next_page (suc l) low said) page
    (children_plan (λ page low high. reading page 0 512 (λ said. page_plan shape front root table l page low high said)) (pairs_said said) high)

-- the same of a page that is to be read
abbrev pub under_plan : Shape → Super → (root table level : ℕ) → (page low high : ℕ) → Plan
under_plan shape front root table level page low high = reading page 0 512 (λ said. page_plan shape front root table level page low high said)

-- the whole tree of a table, from its root down
abbrev pub tree_plan : Shape → Super → (root table : ℕ) → Plan
tree_plan shape front root table =
    reading root 0 512 (λ said. holding (level_said said ≤ 7) root (page_plan shape front root table (level_said said) root 0 key_end said))

-- the trees of all tables
abbrev pub tree_testing : Shape → Plan
tree_testing = index_plan 1 tree_plan
