-- What is known after a look is what was known before it.
use Rattle.std.proofs.Common.{◌≡◌, ℕ, Bool, false, List, refl, sym, ◌∙◌, ap, subst}
use Rattle.std.specs.Prelude.{IsTrue}
use Rattle.array_shape.specs.declared.shape.Shape.{Shape}
use Rattle.eaw_face.specs.State.{State}
use Rattle.eaw_face.specs.Causes.{IsAlive}
use Rattle.page_store.specs.Looks.{Looks}
use Rattle.page_store.specs.Shown.{PagesView}

module _ (tells : Bool) (Opens : List ℕ → List ℕ → Type 0) (old now : PagesView) (looks : Looks tells Opens false old now) where
  pub bytes_same : IsTrue tells → now.store.state.bytes ≡ old.store.state.bytes
  bytes_same told = ap (λ (s : State). s.bytes) ((looks.still refl).state told)

  pub still_told : (P : List ℕ → Type 0) → (IsTrue tells → P old.store.state.bytes) → IsTrue tells → P now.store.state.bytes
  still_told P p told = subst P (sym (bytes_same told)) (p told)

  pub still_alive : IsAlive old.store → IsAlive now.store
  still_alive alive = (looks.still refl).dead ∙ alive

  pub still_shaped : (P : Shape → Type 0) → P old.store.shape → P now.store.shape
  still_shaped P p = subst P (sym looks.shape) p
