-- A store that follows a stream of frames.
use Rattle.std.specs.Prelude.{ℕ, ◌≡◌, ◌≢◌, ◌+◌, ◌^◌, ◌<◌, ◌≤◌, ◌⊎◌, Bool, false, IsTrue, List, ◌++◌, length, flat_map, All}
use Rattle.mars_base.specs.Causes.{Rose}
use Rattle.array_shape.specs.declared.shape.Shape.{Shape}
use Rattle.array_shape.specs.Logged.{applied}
use Rattle.eaw_face.specs.StoreView.{StoreView}
use Rattle.eaw_face.specs.Mirroring.{AreInSequence, followed}
use Rattle.eaw_face.specs.Frame.{Frame, frame_bytes, written_by, IsFrameIn, AreFrame}
use Rattle.mirror.specs.Applying.{IsFree, Applied}
use Rattle.mirror.specs.declared.follow_fault.FollowFault.{FollowFault}
use Rattle.mirror.specs.declared.follow_fault.FollowFault.TheVariants.{BadFrame, Gap, Media, Dead, NoMemory}

-- no beginning of these bytes is a whole frame
abbrev pub HasNoFrame : Shape → List ℕ → Type 0
HasNoFrame shape bytes = (front rest : List ℕ) → bytes ≡ front ++ rest → AreFrame shape front → ⊥

-- nothing behind these bytes makes them a frame
abbrev pub IsBroken : Shape → List ℕ → Type 0
IsBroken shape bytes = (rest : List ℕ) → AreFrame shape (bytes ++ rest) → ⊥

-- As far as whole fields show, something behind these bytes makes them a frame: behind those before the last number, of which some bytes
-- have come and not all.
pub record CanGoOn (shape : Shape) (bytes : List ℕ) : Type 0 where
  pub whole : List ℕ
  pub part : List ℕ
  pub are : bytes ≡ whole ++ part
  pub short : length part ≤ 7
  pub rest : List ℕ
  pub frame : AreFrame shape (whole ++ rest)

-- where a follower stands: its store, how many frames it has applied, and the bytes that it keeps of the next
pub record Stand : Type 1 where
  pub store : StoreView
  pub applied : ℕ
  pub rest : List ℕ

-- the stand of these three
abbrev pub stand : StoreView → ℕ → List ℕ → Stand
stand store applied rest = record { store = store; applied = applied; rest = rest }

-- it can go on, and so can the bytes that it keeps
pub record IsReady (stand : Stand) : Type 0 where
  pub alive : stand.store.is_dead ≡ false
  pub free : IsFree stand.store
  pub none : HasNoFrame stand.store.shape stand.rest
  pub goes_on : CanGoOn stand.store.shape stand.rest

-- These frames, in sequence, and then the bytes `left`, are what the follower kept and the piece that it is fed.
pub record Cuts (old : Stand) (piece : List ℕ) (frames : List Frame) (left : List ℕ) : Type 0 where
  pub good : All (IsFrameIn old.store.shape) frames
  pub sequence : AreInSequence (old.applied + 1) frames
  pub joined : old.rest ++ piece ≡ flat_map frame_bytes frames ++ left

-- the data is that before with these frames applied
pub record HasFollowed (tells : Bool) (frames : List Frame) (old new : StoreView) : Type 0 where
  pub shape : new.shape ≡ old.shape
  pub depth : new.depth ≡ old.depth
  pub data_is : IsTrue tells → new.state.bytes ≡ followed frames old.state.bytes

-- A piece was fed: its whole frames are applied, and the follower keeps the bytes behind them, which begin with no whole frame.
pub record Follows (tells : Bool) (old new : Stand) (piece : List ℕ) : Type 0 where
  pub frames : List Frame
  pub cuts : Cuts old piece frames new.rest
  pub count : new.applied ≡ old.applied + length frames
  pub faults : new.store.faults ≡ old.store.faults
  pub data_is : HasFollowed tells frames old.store new.store
  pub ready : IsReady new

-- two followers stand alike
pub record StandsAs (tells : Bool) (one other : Stand) : Type 0 where
  pub applied : one.applied ≡ other.applied
  pub rest : one.rest ≡ other.rest
  pub data_is : IsTrue tells → one.store.state.bytes ≡ other.store.state.bytes

-- what might have been left: the data with a first part of the frames of this feed applied
pub record LeavesFirst (Opens : Shape → List ℕ → List ℕ → Type 0) (old : Stand) (piece image : List ℕ) : Type 0 where
  pub frames : List Frame
  pub left : List ℕ
  pub cuts : Cuts old piece frames left
  pub opens : Opens old.store.shape image (followed frames old.store.state.bytes)

-- the sequence that must come after so many frames, which is told as 0 behind the last one
pub record IsGap (applied expected got : ℕ) : Type 0 where
  pub other : ((expected ≡ applied + 1) × (expected < 2 ^ 64) × (got ≢ expected)) ⊎ ((2 ^ 64 ≤ applied + 1) × (expected ≡ 0))

-- a follower stopped behind these frames of the piece
pub record StopsAt (tells : Bool) (old : Stand) (new : StoreView) (piece left : List ℕ) (frames : List Frame) : Type 0 where
  pub cuts : Cuts old piece frames left
  pub data_is : HasFollowed tells frames old.store new
  pub faults : new.faults ≡ old.store.faults
  pub alive : new.is_dead ≡ false

-- The bytes behind the frames that are applied begin with bytes that nothing makes a frame.
pub record StopsBroken (tells : Bool) (old : Stand) (new : StoreView) (piece : List ℕ) : Type 0 where
  pub frames : List Frame
  pub broken : List ℕ
  pub later : List ℕ
  pub stops : StopsAt tells old new piece (broken ++ later) frames
  pub none : HasNoFrame old.store.shape broken
  pub is_broken : IsBroken old.store.shape broken

-- The bytes behind the frames that are applied begin with a whole frame that is not in sequence.
pub record StopsAtGap (tells : Bool) (old : Stand) (new : StoreView) (piece : List ℕ) (expected got : ℕ) : Type 0 where
  pub frames : List Frame
  pub next : Frame
  pub later : List ℕ
  pub stops : StopsAt tells old new piece (frame_bytes next ++ later) frames
  pub good : IsFrameIn old.store.shape next
  pub got_is : got ≡ next.sequence
  pub gap : IsGap (old.applied + length frames) expected got

-- some first part of the frames is applied
pub record StopsSomewhere (tells : Bool) (old : Stand) (new : StoreView) (piece : List ℕ) : Type 0 where
  pub frames : List Frame
  pub left : List ℕ
  pub stops : StopsAt tells old new piece left frames

-- why a feed of a follower that can go on stopped
abbrev pub StopCause : Bool → Stand → StoreView → List ℕ → FollowFault → Type 0
StopCause tells old new piece BadFrame = StopsBroken tells old new piece
StopCause tells old new piece (Gap expected got) = StopsAtGap tells old new piece expected got
StopCause tells old new piece Media = Rose old.store.faults new.faults
StopCause tells old new piece Dead = ⊥
StopCause tells old new piece NoMemory = StopsSomewhere tells old new piece

-- a whole frame was applied that is the next one
pub record AppliesNext (tells : Bool) (count : ℕ) (bytes : List ℕ) (old new : StoreView) : Type 0 where
  pub applied : Applied tells bytes old new
  pub next : applied.frame.frame.sequence ≡ count + 1

-- why a whole frame was not applied: it is not the next one, and nothing changed, or the medium failed
abbrev pub NotApplied : ℕ → List ℕ → StoreView → StoreView → FollowFault → Type 0
NotApplied count bytes old new (Gap expected got) =
    (new.shape ≡ old.shape) × (new.depth ≡ old.depth) × (new.state.bytes ≡ old.state.bytes) × (new.faults ≡ old.faults) × (new.is_dead ≡ old.is_dead) × ((f : AreFrame old.shape bytes) → f.frame.sequence ≡ got) × IsGap count expected got
NotApplied count bytes old new Media = Rose old.faults new.faults
NotApplied count bytes old new _ = ⊥

-- an image opens with the data before, or with the next frame applied, which these bytes are
abbrev pub OpensNext : (Shape → List ℕ → List ℕ → Type 0) → ℕ → List ℕ → StoreView → List ℕ → Type 0
OpensNext Opens count bytes old image =
    Opens old.shape image old.state.bytes ⊎ ((f : AreFrame old.shape bytes) × (f.frame.sequence ≡ count + 1) × Opens old.shape image (applied (written_by f.frame) old.state.bytes))
