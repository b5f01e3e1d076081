-- An insertion that finds a slot does not answer that all are in use.
use Rattle.std.proofs.Common.{◌≡◌, ℕ, Bool, false, List, Option, Result, Err, refl, sym, ap, ◌∙◌, subst}
use Rattle.std.specs.Prelude.{IsTrue}
use Rattle.std.proofs.lemmas.Bool.{false≢true}
use Rattle.eaw_face.specs.Command as store
use Rattle.eaw_face.specs.StoreView.{StoreView}
use Rattle.page_store.specs.Course.{Reading}
use Rattle.page_store.specs.Index.{Action}
use Rattle.page_store.specs.Inserts.{are_slots_full}
use Rattle.page_store.specs.Works.{WorksFrom, Limits, unless_full}
use Rattle.page_store.specs.declared.fault.PageFault.{PageFault}
use Rattle.page_store.specs.declared.fault.PageFault.TheVariants as page
use Rattle.page_store.specs.declared.index_fault.IndexFault.{IndexFault}
use Rattle.page_store.specs.Faults.{as_index}

-- a fault of pages does not say so
fault_left : (fault : PageFault) → (let r : Result ℕ IndexFault = Err (as_index fault) in are_slots_full r ≡ false)
fault_left page.Media = refl
fault_left page.Dead = refl
fault_left (page.Damaged bad) = refl
fault_left (page.LogFull g h n) = refl
fault_left page.SavesFull = refl

pub told_left : (fault : PageFault) (told : IndexFault) → told ≡ as_index fault → (let r : Result ℕ IndexFault = Err told in are_slots_full r ≡ false)
told_left fault told is = ap (λ (f : IndexFault). (let r : Result ℕ IndexFault = Err f in are_slots_full r)) is ∙ fault_left fault

-- so its limits are those of any insertion, and nothing follows of full slots
pub works_left : {S : Type 0} {known : List ℕ} {sure : Type 0} {tells done : Bool} {view : S → StoreView} {calls : S → store.Command → ℕ} {t : ℕ} {goes : List Reading → Option ℕ} {limits : Limits} {due : List Action} {bad : Option ℕ} {old new : StoreView}
    → (full : Bool) → full ≡ false → WorksFrom known sure tells done view calls t goes limits due bad old new → WorksFrom known sure tells done view calls t goes (unless_full full limits) due bad old new
works_left {S} {known} {sure} {tells} {done} {view} {calls} {t} {goes} {limits} {due} {bad} {old} {new} full left works =
    subst (λ (b : Bool). WorksFrom known sure tells done view calls t goes (unless_full b limits) due bad old new) (sym left) works

pub not_filled : {P : Type 0} (full : Bool) → full ≡ false → IsTrue full → P
not_filled full left is = absurd (false≢true (sym left ∙ is))
