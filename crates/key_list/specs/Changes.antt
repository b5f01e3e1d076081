-- What one action makes of a chain.
use Rattle.std.specs.Prelude.{ℕ, ◌≡◌, ◌<◌, ◌≤◌, ◌⊎◌, List, take, drop, length}
use Rattle.index_pages.specs.Page.{kind_of, level_of, count_of, link_of, page_pairs}
use Rattle.page_store.specs.Pairs.{inserted, removed}
use Rattle.record_slots.specs.Places.{next_slot, next_page, Carries}

-- a page of a chain with room takes one more pair
pub record TakesPairInChain (old new : List ℕ) (table page key to : ℕ) : Type 0 where
  pub room : count_of old page < 30
  pub kind : kind_of new page ≡ 1
  pub level : level_of new page ≡ 0
  pub link : link_of new page ≡ link_of old page
  pub pairs : page_pairs new page ≡ inserted (page_pairs old page) key to
  pub given : to < next_slot new
  pub carries : Carries new table (key, to)

-- a full page of a chain is split: its last 15 pairs go to another given page, which takes over the link
pub record SplitsPage (old new : List ℕ) (page next : ℕ) : Type 0 where
  pub full : length (page_pairs old page) ≡ 30
  pub kind : kind_of new page ≡ 1
  pub level : level_of new page ≡ 0
  pub link : link_of new page ≡ next
  pub pairs : page_pairs new page ≡ take 15 (page_pairs old page)
  pub kind' : kind_of new next ≡ 1
  pub level' : level_of new next ≡ 0
  pub link' : link_of new next ≡ link_of old page
  pub pairs' : page_pairs new next ≡ drop 15 (page_pairs old page)
  pub two : 2 ≤ next
  pub given : next < next_page new

-- a page of a chain loses the pair of the key, and keeps others, or is the root and has no link
pub record LosesPairInChain (old new : List ℕ) (root page key : ℕ) : Type 0 where
  pub more : (2 ≤ count_of old page) ⊎ ((page ≡ root) × (link_of old page ≡ 0))
  pub kind : kind_of new page ≡ 1
  pub level : level_of new page ≡ 0
  pub link : link_of new page ≡ link_of old page
  pub pairs : page_pairs new page ≡ removed (page_pairs old page) key
