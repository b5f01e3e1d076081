-- What one action writes to a tree.
use Rattle.std.specs.Prelude.{ℕ, suc, ◌≡◌, ◌≢◌, ◌<◌, ◌≤◌, nat_lt, if◌then◌else◌, List, [], ◌∷◌, take, drop, length}
use Rattle.btree_laws.specs.Descent.{child_for}
use Rattle.btree_laws.specs.declared.root.Root.{Root}
use Rattle.index_pages.specs.Keys.{key_at}
use Rattle.index_pages.specs.Page.{page_pairs, kind_of, level_of, link_of, count_of}
use Rattle.page_store.specs.Pairs.{Pair, inserted}
use Rattle.record_slots.specs.Places.{next_page, next_slot, Carries}

-- a leaf with room takes one more pair, whose slot is given out and carries the key
pub record TakesPair (root : Root) (old new : List ℕ) (leaf key to : ℕ) : Type 0 where
  pub room : count_of old leaf < 30
  pub kind : kind_of new leaf ≡ 1
  pub level : level_of new leaf ≡ 0
  pub link : link_of new leaf ≡ 0
  pub pairs : page_pairs new leaf ≡ inserted (page_pairs old leaf) key to
  pub given : to < next_slot new
  pub carries : Carries new root.table (key, to)

-- a page has the kind and level of another, and these of its pairs
pub record IsHalf (old new : List ℕ) (whole half : ℕ) (pairs : List Pair) : Type 0 where
  pub kind : kind_of new half ≡ kind_of old whole
  pub level : level_of new half ≡ level_of old whole
  pub link : link_of new half ≡ 0
  pub pairs_are : page_pairs new half ≡ pairs

-- a page with 30 pairs is split at a place among them: those before it are now in one page, the others in another
pub record IsCut (old new : List ℕ) (whole left right place : ℕ) : Type 0 where
  pub full : length (page_pairs old whole) ≡ 30
  pub some : 1 ≤ place
  pub less : place < 30
  pub left_is : IsHalf old new whole left (take place (page_pairs old whole))
  pub right_is : IsHalf old new whole right (drop place (page_pairs old whole))

-- the first key of the upper part
abbrev pub middle : List ℕ → ℕ → ℕ → ℕ
middle old whole place = key_at (page_pairs old whole) place

-- one more entry, after that of the key's child
abbrev pub with_entry : List Pair → ℕ → Pair → List Pair
with_entry [] key new = []
with_entry (e ∷ []) key new = e ∷ new ∷ []
with_entry (e ∷ f ∷ es) key new = if nat_lt key f.0 then e ∷ new ∷ f ∷ es else e ∷ with_entry (f ∷ es) key new

-- the key's child of an inner page with room is split: its upper part goes to a page of its own, which the inner page names right after the
-- child
pub record SplitsChild (root : Root) (old new : List ℕ) (parent key right : ℕ) : Type 0 where
  pub place : ℕ
  pub room : count_of old parent < 30
  pub kind : kind_of new parent ≡ 2
  pub level : level_of new parent ≡ level_of old parent
  pub link : link_of new parent ≡ 0
  pub pairs : page_pairs new parent ≡ with_entry (page_pairs old parent) key (middle old (child_for (page_pairs old parent) key) place, right)
  pub cut : IsCut old new (child_for (page_pairs old parent) key) (child_for (page_pairs old parent) key) right place
  pub two : 2 ≤ right
  pub other : right ≢ root.page
  pub given : right < next_page new

-- the root is split: both parts go to pages of their own, which it names from one level up
pub record SplitsRoot (root : Root) (old new : List ℕ) (left right : ℕ) : Type 0 where
  pub place : ℕ
  pub kind : kind_of new root.page ≡ 2
  pub level : level_of new root.page ≡ suc (level_of old root.page)
  pub link : link_of new root.page ≡ 0
  pub pairs : page_pairs new root.page ≡ (0, left) ∷ (middle old root.page place, right) ∷ []
  pub cut : IsCut old new root.page left right place
  pub two : 2 ≤ left
  pub other : left ≢ root.page
  pub left_given : left < next_page new
  pub two' : 2 ≤ right
  pub other' : right ≢ root.page
  pub right_given : right < next_page new
