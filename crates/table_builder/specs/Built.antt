-- A tree that is built from below: levels of pages, from the leaves up, each page as the list of its pairs.
use Rattle.std.specs.Prelude.{ℕ, suc, ◌≡◌, ◌+◌, ◌≤◌, List, [], ◌∷◌, ◌++◌, length}
use Rattle.record_slots.specs.Places.{page_bytes, next_page}
use Rattle.page_store.specs.Pairs.{Pair}
use Rattle.index_pages.specs.Written.{written_page}

-- the pages of one level, from left to right, and all pairs of these
abbrev pub Level : Type 0
Level = List (List Pair)

abbrev pub pairs_on : Level → List Pair
pairs_on [] = []
pairs_on (page ∷ pages) = page ++ pairs_on pages

-- the first key
abbrev pub first_key : List Pair → ℕ
first_key [] = 0
first_key (p ∷ ps) = p.0

-- The pairs that name these pages in the level above, whose numbers rise from one on: a page is named by its first key, but the first of
-- them by this low key.
abbrev pub named : ℕ → ℕ → Level → List Pair
named low first [] = []
named low first (page ∷ pages) = (low, first) ∷ named (first_key (pairs_on pages)) (suc first) pages

-- each page is half full at least: it has 15 to 30 pairs
abbrev pub AreFilled : Level → Type 0
AreFilled [] = Unit {0}
AreFilled (page ∷ pages) = (15 ≤ length page) × (length page ≤ 30) × AreFilled pages

-- the pages lie side by side in the data, from this page on, and are of this level
abbrev pub Stand : List ℕ → ℕ → ℕ → Level → Type 0
Stand bytes level first [] = Unit {0}
Stand bytes level first (page ∷ pages) = (page_bytes bytes first ≡ written_page level 0 page) × Stand bytes level (suc first) pages

-- these pages are a level that has these pairs
pub record IsLevel (bytes : List ℕ) (level first : ℕ) (pairs : List Pair) (pages : Level) : Type 0 where
  pub all : pairs_on pages ≡ pairs
  pub some : 1 ≤ length pages
  pub filled : AreFilled pages
  pub stand : Stand bytes level first pages

-- the root has these pairs, and all pages before this one are given
pub record IsTop (bytes : List ℕ) (root level first : ℕ) (pairs : List Pair) : Type 0 where
  pub low : level ≤ 7
  pub most : length pairs ≤ 30
  pub stands : page_bytes bytes root ≡ written_page level 0 pairs
  pub given : first ≤ next_page bytes

-- Levels of these pairs from this level on, whose pages lie side by side from one on: each level names the pages of the one below it, and
-- the root those of the last.
abbrev pub IsBuilt : List ℕ → ℕ → ℕ → ℕ → List Pair → List Level → Type 0
IsBuilt bytes root level first pairs [] = IsTop bytes root level first pairs
IsBuilt bytes root level first pairs (pages ∷ levels) =
    IsLevel bytes level first pairs pages × IsBuilt bytes root (suc level) (first + length pages) (named 0 first pages) levels
