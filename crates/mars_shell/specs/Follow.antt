-- What a run of lines that say frames does on a medium that tells its bytes.
use Rattle.array_image.specs.Decided.{settled_data}
use Rattle.std.specs.Prelude.{ℕ, ◌≡◌, ◌≤◌, ◌⊎◌, List, Bool}
use Rattle.pcm_media.specs.Images.{MayLeave}
use Rattle.pcm_media.specs.View.{View}
use Rattle.array_shape.specs.declared.shape.Shape.{Shape}
use Rattle.device_recovery.specs.Recovered.{HasNoVote}
use Rattle.eaw_face.specs.Frame.{Frame}
use Rattle.eaw_face.specs.Mirroring.{followed}
use Rattle.eaw_device.specs.Opens.{Opens, AllOpen, OpensLike, IsArray}
use Rattle.frame_lines.specs.Followed.{FollowedLines, OpensNear, OpensFirst}
use Rattle.frame_lines.specs.declared.ended.FollowEnd.{FollowEnd}
use Rattle.frame_lines.specs.declared.ended.FollowEnd.TheVariants as follow
use Rattle.script_run.specs.Lines.{lines_of}
use Rattle.array_runs.specs.declared.status.Status.{Status}
use Rattle.array_runs.specs.declared.status.Status.TheVariants.{Good, WriteFault, MediaFault, NoMemory, BadFrame, Gap}

-- the status of lines that say frames
abbrev pub follow_status : FollowEnd → Status
follow_status follow.All = Good
follow_status (follow.BadFrame n) = BadFrame n
follow_status (follow.Gap expected got) = Gap expected got
follow_status follow.WriteFault = WriteFault
follow_status follow.MediaFault = MediaFault
follow_status follow.NoMemory = NoMemory

-- The array settles to its data before with these frames applied, no row is voted, and whatever a loss of power may leave now opens with that
-- data. If the medium failed or memory ran out, it opens with that data, or with the frame of the next line too.
abbrev pub LeavesFollowed : Shape → View → View → FollowEnd → List Frame → List (List ℕ) → Type 0
LeavesFollowed shape old new follow.MediaFault frames behind = (image : List ℕ) → MayLeave new.content image → OpensNear Opens shape (settled_data shape old.content.bytes) frames behind image
LeavesFollowed shape old new follow.NoMemory frames behind = (image : List ℕ) → MayLeave new.content image → OpensNear Opens shape (settled_data shape old.content.bytes) frames behind image
LeavesFollowed shape old new _ frames behind = HasNoVote shape new.content.bytes × (settled_data shape new.content.bytes ≡ followed frames (settled_data shape old.content.bytes))
    × ((image : List ℕ) → MayLeave new.content image → Opens shape image (followed frames (settled_data shape old.content.bytes)))

-- The frames that the lines of the input say were applied to the data of the array. Whatever a loss of power might have left since the start
-- opens with that data with some first of the frames applied, or with the data of an image that could be left at first, if all of those
-- open.
pub record Follows (old : View) (input : List ℕ) (ended : FollowEnd) (new : View) (cut : Bool) (text : List ℕ) : Type 0 where
  pub shape : Shape
  pub array : IsArray shape old
  pub lines : FollowedLines shape (LeavesFollowed shape old new ended) (lines_of input) ended cut text
  pub later : AllOpen shape old.content → old.moment ≤ new.moment
  pub since : AllOpen shape old.content → (image : List ℕ) → new.left_since old.moment image
      → OpensLike shape old.content image ⊎ OpensFirst Opens shape (settled_data shape old.content.bytes) (lines_of input) image
