-- A read aside, of what is the first of a list of what is free.
use Rattle.std.specs.Prelude.{ℕ, ◌≡◌, ◌<◌, ◌≤◌, ◌⊎◌, Bool, List, [], ◌∷◌, length, IfSome, Result}
use Rattle.array_shape.specs.Places.{page_count}
use Rattle.eaw_face.specs.Command as store
use Rattle.eaw_face.specs.StoreView.{StoreView}
use Rattle.page_store.specs.Works.{Step, aside, Spends, IsMet, blamed, is_done}
use Rattle.page_store.specs.declared.fault.PageFault.{PageFault}

-- each of these steps is a read aside
abbrev pub AreAsides : List Step → Type 0
AreAsides [] = Unit {0}
AreAsides (aside page at len ∷ ss) = AreAsides ss
AreAsides (_ ∷ ss) = ⊥

-- At most one read aside was made, and nothing else. A page that is answered as damaged is the super page, or was read.
pub record Peeks {S T : Type 0} (tells : Bool) (view : S → StoreView) (calls : S → store.Command → ℕ) (old new : StoreView) (result : Result T PageFault) : Type 0 where
  pub steps : List Step
  pub spends : Spends tells (is_done result) view calls steps old new
  pub only : AreAsides steps
  pub few : length steps ≤ 1
  pub blames : IfSome (blamed result) (λ page. (page < page_count old.shape) × ((page ≡ 0) ⊎ IsMet page steps))
