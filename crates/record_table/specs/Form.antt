-- Which index the data has, and how that is found.
use Rattle.std.specs.Prelude.{ℕ, ◌≡◌, Bool, true, IsTrue, IsFalse, List, Result, Ok, Err}
use Rattle.mars_base.specs.Causes.{Rose}
use Rattle.eaw_face.specs.StoreView.{StoreView, LeavesOnly}
use Rattle.eaw_face.specs.Causes.{IsAlive}
use Rattle.eaw_face.specs.Mirroring.{Mirrors}
use Rattle.page_store.specs.Looks.{IsStill}
use Rattle.record_slots.specs.Places.{IsSuper}
use Rattle.page_store.specs.declared.index_fault.CheckFault.{CheckFault}
use Rattle.page_store.specs.declared.index_fault.CheckFault.TheVariants.{Damaged, Media, Dead, NoMemory}
use Rattle.record_table.specs.declared.form.Form.{Form}
use Rattle.record_table.specs.declared.form.Form.TheVariants.{Chain, Tree}

-- the number of a form in the super page
abbrev pub form_number : Form → ℕ
form_number Chain = 0
form_number Tree = 1

-- The super page says this form and is sound for it. Page 0 is damaged exactly when it is sound for neither form.
abbrev pub FormCause : Bool → StoreView → Result Form CheckFault → Type 0
FormCause tells old (Ok form) = IsAlive old × (IsTrue tells → IsSuper (form_number form) old.state.bytes)
FormCause tells old (Err (Damaged page)) = IsAlive old × (page ≡ 0) × (IsTrue tells → ¬ IsSuper 0 old.state.bytes × ¬ IsSuper 1 old.state.bytes)
FormCause tells old (Err Media) = IsAlive old
FormCause tells old (Err Dead) = old.is_dead ≡ true
FormCause tells old (Err NoMemory) = ⊥

-- A look at a store, which met a fault of the medium or none. What numbers have logged is as it was. At each moment of a store that was not
-- dead, a loss of power leaves what it might have left before, or an image that opens with the data. What the store sends gives its data.
pub record LooksAt (tells : Bool) (Opens : List ℕ → List ℕ → Type 0) (failed : Bool) (old new : StoreView) : Type 0 where
  pub shape : new.shape ≡ old.shape
  pub depth : new.depth ≡ old.depth
  pub ranges : (t : ℕ) → new.ranges t ≡ old.ranges t
  pub still : IsFalse failed → IsStill tells old new
  pub dies : IsTrue failed → (new.is_dead ≡ true) × Rose old.faults new.faults
  pub time : IsTrue tells → IsAlive old → LeavesOnly (λ image. Opens image old.state.bytes) old new
  pub mirrors : Mirrors tells old new
