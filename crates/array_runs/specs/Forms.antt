-- Which index the data has.
use Rattle.std.specs.Prelude.{ℕ, ◌≡◌, zero, suc, List, Bool, IsTrue}
use Rattle.array_shape.specs.declared.shape.Shape.{Shape}
use Rattle.array_image.specs.Decided.{settled_data}
use Rattle.pcm_media.specs.View.{View}
use Rattle.eaw_face.specs.Causes.{IsAlive}
use Rattle.eaw_face.specs.Mirroring.{Mirrors}
use Rattle.eaw_face.specs.StoreView.{StoreView, LeavesOnly}
use Rattle.record_slots.specs.Places.{page_bytes}
use Rattle.record_slots.specs.Super.{form_said}
use Rattle.page_store.specs.Index.{Index}
use Rattle.key_list.specs.Index.{chain}
use Rattle.btree_pages.specs.Index.{tree}

-- the index of each form: a tree for 1, else a chain
abbrev pub index_of_form : ℕ → Index
index_of_form (suc zero) = tree
index_of_form form = chain

-- the index that the super page of the data names
unfoldable pub index_at : List ℕ → Index
index_at bytes = index_of_form (form_said (page_bytes bytes 0))

-- the same for the data that an array on a medium settles to
abbrev pub index_in : Shape → View → Index
index_in shape media = index_at (settled_data shape media.content.bytes)

-- The super page of the store's data names this form. Nothing was written, and whatever a loss of power might have left meanwhile opens
-- with that data.
pub record SaysForm (tells : Bool) (Opens : List ℕ → List ℕ → Type 0) (form : ℕ) (old new : StoreView) : Type 0 where
  pub is : IsTrue tells → form_said (page_bytes old.state.bytes 0) ≡ form
  pub shape : new.shape ≡ old.shape
  pub depth : new.depth ≡ old.depth
  pub ranges : (t : ℕ) → new.ranges t ≡ old.ranges t
  pub alive : IsAlive new
  pub faults : new.faults ≡ old.faults
  pub state : IsTrue tells → new.state ≡ old.state
  pub time : IsTrue tells → LeavesOnly (λ image. Opens image old.state.bytes) old new
  pub mirrors : Mirrors tells old new
