-- A page of a tree.
use Rattle.std.specs.Prelude.{ℕ, ◌≡◌, ◌≤◌, ◌⊎◌, List}
use Rattle.index_pages.specs.Page.{kind_said, level_said, count_said, link_said}
use Rattle.index_pages.specs.declared.page.Head.{Head}

-- a leaf, or an inner page of level 1 to 7 with a child
abbrev pub IsForm : ℕ → ℕ → ℕ → Type 0
IsForm kind level count = ((kind ≡ 1) × (level ≡ 0)) ⊎ ((kind ≡ 2) × (1 ≤ level) × (level ≤ 7) × (1 ≤ count))

-- a leaf or an inner page, with at most 30 pairs and no link
pub record IsNode (bytes : List ℕ) : Type 0 where
  pub form : IsForm (kind_said bytes) (level_said bytes) (count_said bytes)
  pub link : link_said bytes ≡ 0
  pub most : count_said bytes ≤ 30

-- the page has this head
pub record SaysNode (bytes : List ℕ) (head : Head) : Type 0 where
  pub node : IsNode bytes
  pub level : head.level ≡ level_said bytes
  pub count : head.count ≡ count_said bytes
