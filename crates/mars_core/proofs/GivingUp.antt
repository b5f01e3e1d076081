-- A core whose store does nothing.
use Rattle.std.proofs.Common.{Bool, refl}
use Rattle.eaw_face.specs.StoreView.{StoreView}
use Rattle.eaw_face.specs.Mirroring.{Mirrors}
use Rattle.eaw_face.proofs.Mirroring.{none_sent}

-- nothing was done, so nothing was sent
pub sends_none : (tells : Bool) (store : StoreView) → Mirrors tells store store
sends_none tells store = none_sent tells store store refl refl refl refl (λ alive. alive) (λ told mirrors alive. refl)
