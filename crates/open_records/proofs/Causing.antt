-- Why records are not opened, told of the data that the image opens with.
use Rattle.std.proofs.Common.{◌≡◌, Bool, List, ℕ, subst}
use Rattle.std.specs.Prelude.{IsTrue}
use Rattle.array_shape.specs.declared.shape.Shape.{Shape}
use Rattle.eaw_face.specs.StoreView.{StoreView}
use Rattle.page_store.specs.Index.{Index}
use Rattle.mars_core.specs.Attached.{CoreCause}
use Rattle.mars_core.specs.declared.fault.CoreFault.{CoreFault}
use Rattle.mars_core.specs.declared.fault.CoreFault.TheVariants.{Damaged}
use Rattle.open_records.specs.Opens.{IsUnsound}

pub unsound : (tells : Bool) (index : Index) (store : StoreView) (shape : Shape) (bytes : List ℕ) (fault : CoreFault) → IsTrue tells → store.state.bytes ≡ bytes → CoreCause tells index store fault
    → IsUnsound index fault shape bytes
unsound tells index store shape bytes (Damaged page) told same cause = subst (λ (b : List ℕ). index.fails b page) same (cause told)
unsound tells index store shape bytes fault told same cause = tt
