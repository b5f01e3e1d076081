-- A page as a chain links it.
use Rattle.std.specs.Prelude.{ℕ, ◌≡◌, ◌<◌, ◌≤◌, List, Some}
use Rattle.record_slots.specs.Places.{AreGiven}
use Rattle.page_store.specs.Pairs.{Pair, Rise, next}
use Rattle.index_pages.specs.Keys.{key_end}
use Rattle.index_pages.specs.Page.{kind_said, level_said, count_said, link_said, pairs_said}
use Rattle.index_pages.specs.declared.page.Head.{Head}
use Rattle.key_list.specs.Chain.{pairs_of_chain}

-- kind 1 and level 0, with at most 30 pairs
pub record IsLeaf (bytes : List ℕ) : Type 0 where
  pub kind : kind_said bytes ≡ 1
  pub level : level_said bytes ≡ 0
  pub most : count_said bytes ≤ 30

-- the bytes of a page say this head
pub record SaysLeaf (bytes : List ℕ) (head : Head) : Type 0 where
  pub leaf : IsLeaf bytes
  pub count : head.count ≡ count_said bytes
  pub link : head.link ≡ link_said bytes

-- kind, level and count are those of a page of a chain, and its link is below `pages`
pub record IsLinked (pages : ℕ) (bytes : List ℕ) : Type 0 where
  pub leaf : IsLeaf bytes
  pub link : link_said bytes < pages

-- These are the bytes of a page of the chain with this root: a pair that is the next one in the page, from the key on, is it in the chain.
pub record Reaches (bytes : List ℕ) (root table from : ℕ) (said : List ℕ) : Type 0 where
  pub rises : (low : ℕ) × Rise low key_end (pairs_said said)
  pub given : AreGiven bytes table (pairs_said said)
  pub later : (k : ℕ) (p : Pair) → from ≤ k → next (pairs_said said) k ≡ Some p → next (pairs_of_chain bytes root) k ≡ Some p
