-- What comes of lines that say frames.
use Rattle.std.specs.Prelude.{ℕ, ◌≡◌, ◌⊎◌, ◌+◌, Bool, true, false, IsTrue, List, [], ◌∷◌, ◌++◌, length, take, drop, flat_map}
use Rattle.std.specs.List.{range_with_len}
use Rattle.mars_base.specs.Causes.{Rose}
use Rattle.array_shape.specs.declared.shape.Shape.{Shape}
use Rattle.eaw_face.specs.StoreView.{StoreView}
use Rattle.eaw_face.specs.Frame.{Frame}
use Rattle.eaw_face.specs.Mirroring.{AreInSequence, followed}
use Rattle.mirror.specs.Following.{IsGap}
use Rattle.texts.specs.Written.{IsWritten}
use Rattle.frame_lines.specs.Lines.{IsMeant, Says, AllSay, applied_line}
use Rattle.frame_lines.specs.Taken.{GoesOn}
use Rattle.frame_lines.specs.declared.ended.FollowEnd.{FollowEnd}
use Rattle.frame_lines.specs.declared.ended.FollowEnd.TheVariants.{All as AllFollowed, BadFrame, Gap, WriteFault, MediaFault, NoMemory}

-- The lines behind those that were followed, of which there were so many, and so many frames: there are none, or the next one is not followed
-- for this cause.
abbrev pub StopsAt : Shape → (lines frames : ℕ) → List (List ℕ) → FollowEnd → Type 0
StopsAt shape lines frames behind AllFollowed = behind ≡ []
StopsAt shape lines frames behind (BadFrame n) = (n ≡ lines + 1) × (line : List ℕ) × (later : List (List ℕ)) × (behind ≡ line ∷ later) × IsMeant line × ((f : Frame) → Says shape f line → ⊥)
StopsAt shape lines frames behind (Gap expected got) = (line : List ℕ) × (later : List (List ℕ)) × (behind ≡ line ∷ later) × (f : Frame) × Says shape f line × (got ≡ f.sequence) × IsGap frames expected got
StopsAt shape lines frames behind _ = Unit {0}

-- an image opens with this data with these frames applied, or with one more, which the next line says
abbrev pub OpensNear : (Shape → List ℕ → List ℕ → Type 0) → Shape → List ℕ → List Frame → List (List ℕ) → List ℕ → Type 0
OpensNear Opens shape bytes frames behind image =
    Opens shape image (followed frames bytes)
    ⊎ ((line : List ℕ) × (later : List (List ℕ)) × (f : Frame) × (behind ≡ line ∷ later) × Says shape f line × Opens shape image (followed (frames ++ f ∷ []) bytes))

-- so does whatever a loss of power leaves now
abbrev pub LeavesNear : Bool → (Shape → List ℕ → List ℕ → Type 0) → StoreView → StoreView → List Frame → List (List ℕ) → Type 0
LeavesNear tells Opens old new frames behind = IsTrue tells → (image : List ℕ) → new.left_since new.moment image → OpensNear Opens old.shape old.state.bytes frames behind image

-- whatever a loss of power leaves now opens with the data with just these frames applied
abbrev pub LeavesJust : Bool → (Shape → List ℕ → List ℕ → Type 0) → StoreView → StoreView → List Frame → Type 0
LeavesJust tells Opens old new frames = IsTrue tells → (image : List ℕ) → new.left_since new.moment image → Opens old.shape image (followed frames old.state.bytes)

-- The store goes on with these frames applied. If the medium failed or memory ran out, they are applied, or they and the one of the next line.
abbrev pub LeavesStore : Bool → (Shape → List ℕ → List ℕ → Type 0) → StoreView → StoreView → FollowEnd → List Frame → List (List ℕ) → Type 0
LeavesStore tells Opens old new MediaFault frames behind = LeavesNear tells Opens old new frames behind
LeavesStore tells Opens old new NoMemory frames behind = LeavesNear tells Opens old new frames behind
LeavesStore tells Opens old new _ frames behind = GoesOn tells frames old new × LeavesJust tells Opens old new frames

-- Of each of these frames was told how many are by then; where the sink took no more, of the last one a front only.
abbrev pub TellsApplied : FollowEnd → Bool → List ℕ → List Frame → Type 0
TellsApplied WriteFault cut text frames = (cut ≡ true) × (before : List Frame) × (last : Frame) × (part : List ℕ) × (frames ≡ before ++ last ∷ [])
    × IsWritten true part (applied_line (length frames)) × (text ≡ flat_map applied_line (range_with_len 1 (length before)) ++ part)
TellsApplied _ cut text frames = (cut ≡ false) × (text ≡ flat_map applied_line (range_with_len 1 (length frames)))

-- Frames that so many first lines say, in sequence from 1 on, were applied, and each was told. Then the lines ended, or were not followed further.
-- Leaves says what the frames leave, given the lines behind.
pub record FollowedLines (shape : Shape) (Leaves : List Frame → List (List ℕ) → Type 0) (lines : List (List ℕ)) (ended : FollowEnd) (cut : Bool) (text : List ℕ) : Type 0 where
  pub frames : List Frame
  pub count : ℕ
  pub said : AllSay shape (take count lines) frames
  pub sequence : AreInSequence 1 frames
  pub told : TellsApplied ended cut text frames
  pub leaves : Leaves frames (drop count lines)
  pub stops : StopsAt shape count (length frames) (drop count lines) ended

-- an image opens with this data with the frames applied that some first lines say
abbrev pub OpensFirst : (Shape → List ℕ → List ℕ → Type 0) → Shape → List ℕ → List (List ℕ) → List ℕ → Type 0
OpensFirst Opens shape bytes lines image = (count : ℕ) × (frames : List Frame)
    × AllSay shape (take count lines) frames × AreInSequence 1 frames × Opens shape image (followed frames bytes)

-- the counts of the sink and of the medium: the one that ended the run rose, and else they are as they were
abbrev pub Counts : FollowEnd → ℕ → ℕ → ℕ → ℕ → Type 0
Counts WriteFault sink sink' media media' = Rose sink sink' × (media' ≡ media)
Counts MediaFault sink sink' media media' = (sink' ≡ sink) × Rose media media'
Counts _ sink sink' media media' = (sink' ≡ sink) × (media' ≡ media)
