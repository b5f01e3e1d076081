-- What it takes to find the page of a key for an insertion or a removal.
use Rattle.std.specs.Prelude.{ℕ, ◌≡◌, ◌≤◌, ◌<◌, ◌⊎◌, Bool, true, false, IfOk, IfSome, List, [], ◌∷◌, length, Option, None, Result}
use Rattle.array_shape.specs.Places.{page_count}
use Rattle.array_shape.specs.declared.shape.Shape.{Shape}
use Rattle.eaw_face.specs.Command as store
use Rattle.eaw_face.specs.StoreView.{StoreView}
use Rattle.page_store.specs.Course.{IsWay, Reading}
use Rattle.page_store.specs.Index.{index_pages_of}
use Rattle.page_store.specs.Works.{Limits, Step, front, onward, Spends, fronts_of, way_of, IsMet, blamed, is_done}
use Rattle.page_store.specs.declared.fault.PageFault.{PageFault}
use Rattle.key_list.specs.Along.{along}

-- each step is a read of the super page, or of the page that comes next on a way
abbrev pub AreReads : List Step → Type 0
AreReads [] = Unit {0}
AreReads (front ∷ ss) = AreReads ss
AreReads (onward r ∷ ss) = AreReads ss
AreReads (_ ∷ ss) = ⊥

-- how many pages of the way may be read: none, if the page is known
abbrev pub most_read : Bool → Shape → ℕ
most_read true shape = 0
most_read false shape = index_pages_of shape

-- no page of a way
abbrev pub no_way : List Reading → Option ℕ
no_way read = None

-- what may be left of an insertion into a page that has room, or of a removal; and of one that is to be cut first
abbrev pub limits_here : Limits
limits_here = record { fronts = 0; way = 0; asides = 1; actions = 1 }

abbrev pub limits_cut : Limits
limits_cut = record { fronts = 0; way = 0; asides = 2; actions = 2 }

-- nothing is left where all slots are in use
abbrev pub limits_none : Limits
limits_none = record { fronts = 0; way = 0; asides = 0; actions = 0 }

-- The super page was read, once, and at most so many pages of the way of a key, each as it was to be; and nothing else was done. A page that is
-- answered as damaged was read. An answer is what `Ends` says of it and of the steps.
pub record Finds {S T : Type 0} (tells : Bool) (view : S → StoreView) (calls : S → store.Command → ℕ) (root key most : ℕ) (Ends : T → List Step → Type 0) (old new : StoreView) (result : Result T PageFault) : Type 0 where
  pub steps : List Step
  pub spends : Spends tells (is_done result) view calls steps old new
  pub only : AreReads steps
  pub fronts : fronts_of steps ≤ 1
  pub way : IsWay (along root key) (way_of steps)
  pub few : length (way_of steps) ≤ most
  pub blames : IfSome (blamed result) (λ page. (page < page_count old.shape) × IsMet page steps)
  pub ends : IfOk result (λ x. Ends x steps)
