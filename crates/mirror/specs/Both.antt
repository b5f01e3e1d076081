-- An array that mirrors, and one that follows it.
use Rattle.std.specs.Prelude.{ℕ, ◌≡◌, ◌+◌, List, [], ◌++◌, length}
use Rattle.array_shape.specs.declared.shape.Shape.{Shape}
use Rattle.eaw_face.specs.StoreView.{StoreView}
use Rattle.eaw_face.specs.Frame.{Frame}
use Rattle.eaw_face.specs.Mirroring.{followed}
use Rattle.mirror.specs.Following.{Stand}

-- They have one shape and one data. The follower has applied as many frames as were sent, and keeps no bytes of another.
pub record HaveOneData (primary : StoreView) (follower : Stand) : Type 0 where
  pub shape : follower.store.shape ≡ primary.shape
  pub data_is : follower.store.state.bytes ≡ primary.state.bytes
  pub applied : follower.applied ≡ primary.sending.sent
  pub rest : follower.rest ≡ []

-- some first of these frames
pub record FirstOf (frames : List Frame) : Type 0 where
  pub firsts : List Frame
  pub later : List Frame
  pub are : frames ≡ firsts ++ later

-- The follower has the data that the primary had, with some first of the frames applied that were sent since, as many as it counts.
pub record HasFirst (added : List Frame) (primary : StoreView) (follower : Stand) : Type 0 where
  pub first : FirstOf added
  pub count : follower.applied ≡ primary.sending.sent + length first.firsts
  pub data_is : follower.store.state.bytes ≡ followed first.firsts primary.state.bytes

-- an image opens with the data that the primary had, with some first of these frames applied
pub record OpensFirstOf (Opens : Shape → List ℕ → List ℕ → Type 0) (added : List Frame) (primary : StoreView) (image : List ℕ) : Type 0 where
  pub first : FirstOf added
  pub opens : Opens primary.shape image (followed first.firsts primary.state.bytes)
