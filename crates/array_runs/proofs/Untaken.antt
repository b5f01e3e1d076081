-- Records that were not taken.
use Rattle.std.proofs.Common.{◌≡◌, ℕ, ◌⊎◌, inl, inr, List, [], Bool, false, refl, sym, ap, subst}
use Rattle.std.specs.Prelude.{IsTrue}
use Rattle.std.proofs.lemmas.Bool.{false≢true}
use Rattle.mars_base.proofs.Going as going
use Rattle.array_shape.specs.declared.shape.Shape.{Shape}
use Rattle.eaw_face.specs.State.{State}
use Rattle.eaw_face.specs.StoreView.{StoreView, LeavesOnly}
use Rattle.page_store.specs.Index.{Index}
use Rattle.record_table.specs.Upgrading.{upgraded}
use Rattle.mars_core.specs.Attached.{CoreCause, LeftAsItWas, GivesBack, is_media_fault}
use Rattle.mars_core.specs.declared.fault.CoreFault.{CoreFault}
use Rattle.mars_core.specs.declared.fault.CoreFault.TheVariants.{Damaged, Media, NoMemory}
use Rattle.array_runs.specs.Forms.{index_of_form, index_at, SaysForm}
use Rattle.array_runs.specs.Untaken.{OpensAs, spares_at, Untaken}
use Rattle.array_runs.proofs.Forming.{of_form, moved_cause}

-- an image opens as a core leaves it that was not begun
untaken_as : (Opens : List ℕ → List ℕ → Type 0) (bytes image : List ℕ) (fault : CoreFault) → Opens image bytes ⊎ (IsTrue (is_media_fault fault) × Opens image (upgraded bytes)) → OpensAs (spares_at false fault) Opens bytes image
untaken_as Opens bytes image (Damaged page) (inl was) = inl was
untaken_as Opens bytes image (Damaged page) (inr is) = absurd (false≢true is.0)
untaken_as Opens bytes image Media (inl was) = inl was
untaken_as Opens bytes image Media (inr is) = inr (refl, is.1)
untaken_as Opens bytes image NoMemory (inl was) = inl was
untaken_as Opens bytes image NoMemory (inr is) = inr (refl, is.1)

-- the records were not taken
pub untaken : (tells : Bool) (Opens : Shape → List ℕ → List ℕ → Type 0) (index : Index) (old new : StoreView) (fault : CoreFault) → IsTrue tells → CoreCause tells index old fault
    → GivesBack tells (Opens old.shape) (is_media_fault fault) old new → Untaken false Opens index old fault false [] new
untaken tells Opens index old new fault told cause back = record {
  whole = refl;
  silent = refl;
  cause = subst (λ (b : Bool). CoreCause b index old fault) told cause;
  time = going.weaker (λ image either. untaken_as (Opens old.shape) old.state.bytes image fault either) (back.time told);
}

-- a store that is left as it was
pub unread : (spares tells : Bool) (Opens : Shape → List ℕ → List ℕ → Type 0) (index : Index) (old new : StoreView) (failed : Bool) (fault : CoreFault) → IsTrue tells → CoreCause tells index old fault
    → LeftAsItWas tells (Opens old.shape) failed old new → Untaken spares Opens index old fault false [] new
unread spares tells Opens index old new failed fault told cause left = record {
  whole = refl;
  silent = refl;
  cause = subst (λ (b : Bool). CoreCause b index old fault) told cause;
  time = going.weaker (λ image opens. inl opens) (left.time told);
}

-- the same of the store before its data named the index
pub untaken_over : (tells : Bool) → IsTrue tells → (Opens : Shape → List ℕ → List ℕ → Type 0) (form : ℕ) (old mid new : StoreView) → SaysForm tells (Opens old.shape) form old mid → (spares : Bool) (fault : CoreFault) (cut : Bool) (text : List ℕ)
    → Untaken spares Opens (index_of_form form) mid fault cut text new → Untaken spares Opens (index_at old.state.bytes) old fault cut text new
untaken_over tells told Opens form old mid new says spares fault cut text off = subst (λ (i : Index). Untaken spares Opens i old fault cut text new) (sym (of_form form old.state.bytes (says.is told))) (record {
  whole = off.whole;
  silent = off.silent;
  cause = moved_cause (index_of_form form) old mid bytes_are fault off.cause;
  time = going.then (going.weaker (λ image opens. inl opens) (says.time told)) (subst (λ (x : Shape × List ℕ). LeavesOnly (λ image. OpensAs (spares_at spares fault) (Opens x.0) x.1 image) mid new) (λ i. (says.shape i, bytes_are i)) off.time);
})
  where
    bytes_are : mid.state.bytes ≡ old.state.bytes
    bytes_are = ap (λ (s : State). s.bytes) (says.state told)
