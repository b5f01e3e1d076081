-- What a store that mirrors sends.
use Rattle.std.specs.Prelude.{ℕ, ◌≡◌, ◌+◌, ◌^◌, ◌≤◌, ◌⊎◌, ◌↔◌, Bool, true, false, IsTrue, List, [], ◌∷◌, ◌++◌, length, drop, map, flat_map, All}
use Rattle.mars_base.specs.Causes.{Rose}
use Rattle.array_shape.specs.declared.shape.Shape.{Shape}
use Rattle.array_shape.specs.Logged.{applied}
use Rattle.eaw_face.specs.Frame.{Frame, frame_bytes, IsFrameIn}
use Rattle.eaw_face.specs.Sending.{Sending}
use Rattle.eaw_face.specs.StoreView.{StoreView}

-- their sequences rise by one from this on
abbrev pub AreInSequence : ℕ → List Frame → Type 0
AreInSequence next [] = Unit {0}
AreInSequence next (f ∷ fs) = (f.sequence ≡ next) × AreInSequence (next + 1) fs

-- the data once frames are applied, one after another
abbrev pub followed : List Frame → List ℕ → List ℕ
followed [] bytes = bytes
followed (f ∷ fs) bytes = followed fs (applied (flat_map (λ group. group.parts) f.groups) bytes)

-- these frames were sent, next in sequence
pub record Adds (shape : Shape) (added : List Frame) (old new : Sending) : Type 0 where
  pub good : All (IsFrameIn shape) added
  pub sequence : AreInSequence (old.sent + 1) added
  pub count : new.sent ≡ old.sent + length added
  pub frames : IsTrue old.told → new.frames ≡ old.frames ++ map frame_bytes added

-- The sending has ended just where a send has failed, or a frame was due behind the last sequence that there is. It has ended for good.
pub record EndsFor (added : List Frame) (old new : Sending) : Type 0 where
  pub later : old.faults ≤ new.faults
  pub cause : new.is_down ≡ true → (old.is_down ≡ true) ⊎ ((2 ^ 64 ≤ new.sent + 1) ⊎ Rose old.faults new.faults)
  pub goes_on : new.is_down ≡ false → new.faults ≡ old.faults
  pub ended : old.is_down ≡ true → (new.is_down ≡ true) × (added ≡ [])

-- it mirrors as it did, or not, and is told of as it was
pub record IsKindOf (old new : Sending) : Type 0 where
  pub mirrors : new.mirrors ≡ old.mirrors
  pub told : new.told ≡ old.told

-- From one view of a store to a later one, frames were only added to those that it has sent, next in sequence: none if it does not mirror.
-- If it mirrors, the sending goes on and it is not dead, they give, applied to the data before, the data after.
pub record Mirrors (tells : Bool) (old new : StoreView) : Type 0 where
  pub added : List Frame
  pub shape : new.shape ≡ old.shape
  pub depth : new.depth ≡ old.depth
  pub device : new.device ≡ old.device
  pub kind : IsKindOf old.sending new.sending
  pub adds : Adds old.shape added old.sending new.sending
  pub ends : EndsFor added old.sending new.sending
  pub none : old.sending.mirrors ≡ false → added ≡ []
  pub lived : new.is_dead ≡ false → old.is_dead ≡ false
  pub data_is : IsTrue tells → old.sending.mirrors ≡ true → new.sending.is_down ≡ false → new.is_dead ≡ false → new.state.bytes ≡ followed added old.state.bytes

-- one store shows what the other does, but for what was done on the device
pub record ShowsSame (old new : StoreView) : Type 0 where
  pub shape : new.shape ≡ old.shape
  pub depth : new.depth ≡ old.depth
  pub state : new.state ≡ old.state
  pub ranges : new.ranges ≡ old.ranges
  pub is_dead : new.is_dead ≡ old.is_dead
  pub faults : new.faults ≡ old.faults
  pub moment : new.moment ≡ old.moment
  pub left : (t : ℕ) (image : List ℕ) → new.left_since t image ↔ old.left_since t image
  pub sending : new.sending ≡ old.sending

-- a store that gave up its oldest frame, if it had one, is as it was in all else
pub record GivesUp (old new : StoreView) : Type 0 where
  pub same : ShowsSame old (record new { sending = old.sending })
  pub device : new.device ≡ old.device
  pub frames : IsTrue old.sending.told → new.sending.frames ≡ drop 1 old.sending.frames
  pub sending : new.sending ≡ record old.sending { frames = new.sending.frames }
