-- A newly made store in memory.
use Rattle.std.specs.Prelude.{ℕ, ◌≡◌, false, List, None}
use Rattle.array_shape.specs.declared.shape.Shape.{Shape}
use Rattle.eaw_face.specs.StoreView.{StoreView}

-- It has this shape and data, no commit may wait, no number is live, nothing has failed, and a loss of power leaves only this data.
pub record IsFresh (shape : Shape) (bytes : List ℕ) (store : StoreView) : Type 0 where
  pub shape_is : store.shape ≡ shape
  pub depth : store.depth ≡ 0
  pub bytes_are : store.state.bytes ≡ bytes
  pub free : (t : ℕ) → store.ranges t ≡ None
  pub alive : store.is_dead ≡ false
  pub no_fault : store.faults ≡ 0
  pub first : store.moment ≡ 0
  pub left : (t : ℕ) (image : List ℕ) → store.left_since t image → image ≡ bytes
