-- What the parts of an insertion or a removal in a tree read.
use Rattle.std.specs.Prelude.{ℕ, zero, suc, ◌≡◌, ◌≢◌, ◌+◌, ◌<◌, ◌≤◌, ◌⊎◌, Bool, true, false, List, [], ◌∷◌, length, map, Some, IfOk, IfSome, Result, Err}
use Rattle.array_shape.specs.Places.{page_count}
use Rattle.eaw_face.specs.Command.{Command}
use Rattle.eaw_face.specs.StoreView.{StoreView}
use Rattle.page_store.specs.Course.{Reading, IsWay}
use Rattle.page_store.specs.Follows.{HasRead, IsLast, one_reading}
use Rattle.page_store.specs.Looks.{is_failed}
use Rattle.page_store.specs.Pairs.{Pair}
use Rattle.page_store.specs.Works.{Limits, Spends, IsMet, onward, blamed}
use Rattle.page_store.specs.declared.fault.PageFault.{PageFault}
use Rattle.index_pages.specs.Page.{level_said, pairs_said}
use Rattle.btree_laws.specs.Descent.{child_for}
use Rattle.btree_pages.specs.Downward.{below}
use Rattle.btree_pages.specs.declared.node.Node.{Node}

-- a page said this of its level and its pairs
pub record SaysPage (said : List ℕ) (node : Node) : Type 0 where
  pub level : node.level ≡ level_said said
  pub pairs : node.pairs.items ≡ pairs_said said

-- one page was read, and said this at Ok
abbrev pub ReadsPage : (tells : Bool) (calls calls_now : Command → ℕ) (page : ℕ) (there : List ℕ) (old new : StoreView) → Result Node PageFault → Type 0
ReadsPage tells calls calls_now page there old new result =
    (said : List ℕ) × HasRead tells (is_failed result) calls calls_now old new (one_reading page said there result) × IfOk result (SaysPage said)

-- nothing, or just this page
abbrev pub IsOnly : ℕ → List Reading → Type 0
IsOnly page [] = Unit {0}
IsOnly page (r ∷ []) = r.0 ≡ page
IsOnly page _ = ⊥

-- A page that another one names was read, and nothing else was done; or nothing was, and the other one is answered as damaged.
pub record ReadsNamed (tells : Bool) (calls calls_now : Command → ℕ) (from page : ℕ) (old new : StoreView) (result : Result Node PageFault) : Type 0 where
  pub read : List Reading
  pub reads : HasRead tells (is_failed result) calls calls_now old new read
  pub only : IsOnly page read
  pub says : IfOk result (λ node. (said : List ℕ) × (read ≡ (page, said) ∷ []) × SaysPage said node)
  pub blames : IfSome (blamed result) (λ bad. (bad ≡ from) ⊎ IsLast read bad)

-- how much an insertion may still do from a page of this level on: one page of the way, one split and one page taken for each level, and the pair
abbrev pub limits_below : ℕ → Limits
limits_below level = record { fronts = 0; way = level; asides = level + 1; actions = level + 1 }

-- the same if the page is a root that is split first
abbrev pub limits_above : ℕ → Limits
limits_above level = record { fronts = 0; way = level; asides = level + 3; actions = level + 2 }

-- the pages that it may answer as damaged without meeting them again: the super page, and that page, unless it is a leaf
abbrev pub known_from : ℕ → ℕ → List ℕ
known_from zero page = 0 ∷ []
known_from (suc level) page = 0 ∷ page ∷ []

-- how much a removal may do from a page of this level on: one page of the way for each level, one page aside, and its action
abbrev pub limits_down : ℕ → Limits
limits_down level = record { fronts = 0; way = level; asides = 1; actions = 1 }

-- Pages of the way of a key were read behind a page that had been read, each as it was to be, as far as this one, of this level and with these pairs.
pub record CameDown {S : Type 0} (tells : Bool) (view : S → StoreView) (calls : S → Command → ℕ) (key page0 level0 : ℕ) (pairs0 : List Pair) (old now : StoreView) (page level : ℕ) (pairs : List Pair) : Type 0 where
  pub read : List Reading
  pub shape : now.shape ≡ old.shape
  pub spends : Spends tells true view calls (map (λ r. onward r) read) old now
  pub way : IsWay (below key level0 pairs0) read
  pub leads : level ≢ 0 → below key level0 pairs0 read ≡ Some (child_for pairs key)
  pub count : length read + level ≡ level0
  pub there : page < page_count old.shape
  pub met : (page ≡ page0) ⊎ IsMet page (map (λ r. onward r) read)

-- So many were read, and then there was a fault. A page that is answered as damaged was read.
pub record FailsDown {S : Type 0} (tells : Bool) (view : S → StoreView) (calls : S → Command → ℕ) (key page0 level0 : ℕ) (pairs0 : List Pair) (old now : StoreView) (fault : PageFault) : Type 0 where
  pub read : List Reading
  pub spends : Spends tells false view calls (map (λ r. onward r) read) old now
  pub way : IsWay (below key level0 pairs0) read
  pub few : length read ≤ level0
  pub blames : (let r : Result (Unit {0}) PageFault = Err fault in IfSome (blamed r) (λ p. (p < page_count old.shape) × ((p ≡ page0) ⊎ IsMet p (map (λ r. onward r) read))))
