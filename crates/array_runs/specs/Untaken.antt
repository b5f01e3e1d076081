-- Records of a store's data that were not taken.
use Rattle.std.specs.Prelude.{ℕ, ◌≡◌, ◌⊎◌, List, [], Bool, true, false, IsFalse}
use Rattle.array_shape.specs.declared.shape.Shape.{Shape}
use Rattle.eaw_face.specs.StoreView.{StoreView, LeavesOnly}
use Rattle.page_store.specs.Index.{Index}
use Rattle.record_table.specs.Upgrading.{upgraded}
use Rattle.mars_core.specs.Attached.{CoreCause}
use Rattle.mars_core.specs.declared.fault.CoreFault.{CoreFault}
use Rattle.mars_core.specs.declared.fault.CoreFault.TheVariants.{Damaged}

-- an image opens with this data, or, unless it is spared, with the same in version 2
abbrev pub OpensAs : Bool → (List ℕ → List ℕ → Type 0) → List ℕ → List ℕ → Type 0
OpensAs spares Opens bytes image = Opens image bytes ⊎ (IsFalse spares × Opens image (upgraded bytes))

-- no data is brought to version 2 if it is spared, or if a page of it is damaged
abbrev pub spares_at : Bool → CoreFault → Bool
spares_at spares (Damaged page) = true
spares_at spares fault = spares

-- Nothing was done over the records. Whatever a loss of power might have left meanwhile opens with the store's data, or with the same in
-- version 2 if it may have been brought to that.
pub record Untaken (spares : Bool) (Opens : Shape → List ℕ → List ℕ → Type 0) (index : Index) (old : StoreView) (fault : CoreFault) (cut : Bool) (text : List ℕ) (new : StoreView) : Type 0 where
  pub whole : cut ≡ false
  pub silent : text ≡ []
  pub cause : CoreCause true index old fault
  pub time : LeavesOnly (λ image. OpensAs (spares_at spares fault) (Opens old.shape) old.state.bytes image) old new
