-- A frame of which some bytes have come.
use Rattle.std.specs.Prelude.{ℕ, ◌≡◌, ◌+◌, ◌≤◌, ◌↔◌, List, ◌++◌, length}
use Rattle.array_shape.specs.declared.shape.Shape.{Shape}
use Rattle.eaw_face.specs.StoreView.{StoreView}
use Rattle.eaw_face.specs.Frame.{AreFrame}
use Rattle.mirror.specs.Following.{stand, IsReady, CanGoOn}
use Rattle.mirror.specs.Rest.{Rest, IsOpen, to_come}
use Rattle.mirror.specs.declared.place.Place.{Place}

-- The bytes lead to this place. They can go on, but for those of the number in which it stands, which has at most eight.
pub record LeadTo (shape : Shape) (place : Place) (bytes : List ℕ) : Type 0 where
  pub ready : IsOpen shape place
  pub same : (more : List ℕ) → AreFrame shape (bytes ++ more) ↔ Rest shape place more
  pub goes_on : CanGoOn shape bytes
  pub short : length goes_on.part + to_come place ≤ 8

-- what a follower keeps while no feed has answered a fault
pub record IsGoing (store : StoreView) (applied : ℕ) (shape : Shape) (place : Place) (bytes : List ℕ) : Type 0 where
  pub ready : IsReady (stand store applied bytes)
  pub leads : LeadTo shape place bytes
  pub shape_is : shape ≡ store.shape
