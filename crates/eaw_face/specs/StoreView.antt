-- What a store shows.
use Rattle.std.specs.Prelude.{ℕ, ◌<◌, Bool, List, [], ◌∷◌, length, IsSome}
use Rattle.mars_base.specs.Moments.{Elapses}
use Rattle.pcm_media.specs.Images.{Content}
use Rattle.array_shape.specs.declared.shape.Shape.{Shape}
use Rattle.array_shape.specs.Places.{IsPlaced}
use Rattle.eaw_face.specs.State.{Logs, State, listed}
use Rattle.eaw_face.specs.Sending.{Sending}

-- Its shape; how many commits may wait for their write-back; its data and logs; for each live number the ranges of its parts; whether an
-- earlier call met a fault of the medium; how often the medium has failed; the moment; whether a loss of power at this moment or a later
-- one might have left this image; what was done so far on the device, where that is another's work (else nothing); and what it has sent of its
-- commits.
pub record StoreView : Type 1 where
  pub shape : Shape
  pub depth : ℕ
  pub state : State
  pub ranges : Logs (ℕ × ℕ)
  pub is_dead : Bool
  pub faults : ℕ
  pub moment : ℕ
  pub left_since : ℕ → List ℕ → Type 0
  pub device : Content
  pub sending : Sending

-- how many parts a number has logged
abbrev pub log_len : StoreView → ℕ → ℕ
log_len store t = length (listed (store.ranges t))

-- the number is one of the array's and has a log
pub record IsLive (store : StoreView) (t : ℕ) : Type 0 where
  pub small : t < store.shape.numbers
  pub live : IsSome (store.ranges t)

-- from one view to a later one, each image that is new among those that might have been left has P
abbrev pub LeavesOnly : (List ℕ → Type 0) → StoreView → StoreView → Type 0
LeavesOnly P old new = Elapses old.moment new.moment old.left_since new.left_since P

-- some image may be left now
pub record LeavesSome (store : StoreView) : Type 0 where
  pub image : List ℕ
  pub left : store.left_since store.moment image

-- each range lies within one page of the data, and is not empty
abbrev pub ArePlaced : Shape → List (ℕ × ℕ) → Type 0
ArePlaced shape [] = Unit {0}
ArePlaced shape (r ∷ rs) = IsPlaced shape r.0 r.1 × ArePlaced shape rs
