-- What comes of one line.
use Rattle.std.specs.Prelude.{ℕ, ◌≡◌, ◌+◌, ◌⊎◌, Bool, true, false, List, [], ◌∷◌, Option, Some, None, Result, Ok, Err}
use Rattle.mars_base.specs.Causes.{Rose}
use Rattle.array_shape.specs.declared.shape.Shape.{Shape}
use Rattle.array_shape.specs.Logged.{applied}
use Rattle.eaw_face.specs.StoreView.{StoreView}
use Rattle.eaw_face.specs.Frame.{Frame, written_by}
use Rattle.mirror.specs.Following.{HasFollowed, IsGap}
use Rattle.mirror.specs.FollowerView.{FollowerView}
use Rattle.frame_lines.specs.Lines.{IsMeant, Says, applied_line}
use Rattle.texts.specs.Written.{IsWritten}
use Rattle.frame_lines.specs.declared.ended.FollowEnd.{FollowEnd}
use Rattle.frame_lines.specs.declared.ended.FollowEnd.TheVariants.{All as AllFollowed, BadFrame, Gap, WriteFault, MediaFault, NoMemory}

-- a follower that can go on, and keeps nothing of a next frame
pub record IsBetween {S : Type 0} (follower : FollowerView S) : Type 0 where
  pub alive : follower.is_dead ≡ false
  pub none : follower.rest ≡ []

-- the data is that before with these frames applied, the medium has not failed, and the store is not dead
pub record GoesOn (tells : Bool) (frames : List Frame) (old new : StoreView) : Type 0 where
  pub data_is : HasFollowed tells frames old new
  pub faults : new.faults ≡ old.faults
  pub alive : new.is_dead ≡ false

-- the next frame was applied, and so many are by now
pub record Applied {S : Type 0} (tells : Bool) (view : S → StoreView) (frame : Frame) (count : ℕ) (old new : FollowerView S) : Type 0 where
  pub next : frame.sequence ≡ old.applied + 1
  pub count_is : count ≡ old.applied + 1
  pub applied : new.applied ≡ count
  pub goes_on : GoesOn tells (frame ∷ []) (view old.store) (view new.store)
  pub between : IsBetween new

-- A frame that came whole is applied, or it is not the next one, or the medium failed, or memory ran out.
abbrev pub Fed : {S : Type 0} → Bool → (S → StoreView) → Frame → (old new : FollowerView S) → Result ℕ FollowEnd → Type 0
Fed tells view frame old new (Ok count) = Applied tells view frame count old new
Fed tells view frame old new (Err (Gap expected got)) = (got ≡ frame.sequence) × IsGap old.applied expected got × GoesOn tells [] (view old.store) (view new.store)
Fed tells view frame old new (Err MediaFault) = Rose (view old.store).faults (view new.store).faults
Fed tells view frame old new (Err NoMemory) = (view new.store).faults ≡ (view old.store).faults
Fed tells view frame old new (Err _) = ⊥

-- The n-th line is passed over, or its frame is fed, or it is meant as a frame and says none.
abbrev pub Took : {S : Type 0} → Bool → (S → StoreView) → Shape → ℕ → List ℕ → (old new : FollowerView S) → Result (Option ℕ) FollowEnd → Type 0
Took tells view shape n line old new (Ok None) = (IsMeant line → ⊥) × (new ≡ old)
Took tells view shape n line old new (Ok (Some count)) = (f : Frame) × Says shape f line × Applied tells view f count old new
Took tells view shape n line old new (Err (BadFrame m)) = (m ≡ n) × IsMeant line × ((f : Frame) → Says shape f line → ⊥) × (new ≡ old)
Took tells view shape n line old new (Err NoMemory) = (view new.store).faults ≡ (view old.store).faults
Took tells view shape n line old new (Err ended) = (f : Frame) × Says shape f line × (let r : Result ℕ FollowEnd = Err ended in Fed tells view f old new r)

-- an image opens with the data before, or with the next frame applied
abbrev pub OpensFed : {S : Type 0} → (S → StoreView) → (Shape → List ℕ → List ℕ → Type 0) → Frame → FollowerView S → List ℕ → Type 0
OpensFed view Opens frame old image =
    Opens (view old.store).shape image (view old.store).state.bytes ⊎ ((frame.sequence ≡ old.applied + 1) × Opens (view old.store).shape image (applied (written_by frame) (view old.store).state.bytes))

-- an image opens with the data before, or with the next frame applied, which the line says
abbrev pub OpensTaken : {S : Type 0} → (S → StoreView) → (Shape → List ℕ → List ℕ → Type 0) → Shape → List ℕ → FollowerView S → List ℕ → Type 0
OpensTaken view Opens shape line old image =
    Opens (view old.store).shape image (view old.store).state.bytes ⊎ ((f : Frame) × Says shape f line × (f.sequence ≡ old.applied + 1) × Opens (view old.store).shape image (applied (written_by f) (view old.store).state.bytes))

-- how the run has ended if no further line follows
abbrev pub ending : {T : Type 0} → Result T FollowEnd → FollowEnd
ending (Ok x) = AllFollowed
ending (Err ended) = ended

-- what was written of one line, and what came of it
abbrev pub FollowedLine : {S T : Type 0} → Bool → (S → StoreView) → Shape → ℕ → List ℕ → (old new : FollowerView S) → Result T FollowEnd → Bool → List ℕ → Type 0
FollowedLine tells view shape n line old new (Ok x) cut text = (cut ≡ false)
    × (((IsMeant line → ⊥) × (new ≡ old) × (text ≡ [])) ⊎ ((f : Frame) × Says shape f line × Applied tells view f (old.applied + 1) old new × (text ≡ applied_line (old.applied + 1))))
FollowedLine tells view shape n line old new (Err WriteFault) cut text = (cut ≡ true) × (f : Frame) × Says shape f line × Applied tells view f (old.applied + 1) old new × IsWritten true text (applied_line (old.applied + 1))
FollowedLine tells view shape n line old new (Err ended) cut text = (cut ≡ false) × (text ≡ []) × (let r : Result (Option ℕ) FollowEnd = Err ended in Took tells view shape n line old new r)
