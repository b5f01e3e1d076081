-- The commits that a queue in memory names on the medium.
use Rattle.std.specs.Prelude.{ℕ, ◌≡◌, ◌^◌, ◌<◌, ◌≤◌, Bool, IsTrue, List, [], ◌∷◌, length, All, vec_capacity}
use Rattle.pcm_media.specs.Images.{Content}
use Rattle.pcm_media.specs.View.{View}
use Rattle.array_shape.specs.declared.shape.Shape.{Shape}
use Rattle.array_shape.specs.Logged.{applied}
use Rattle.array_shape.specs.Places.{media_len}
use Rattle.row_bytes.specs.declared.ballot.Ballot.{Ballot}
use Rattle.array_image.specs.Image.{data_of}
use Rattle.commit_queue.specs.Queue.{Commit, queue_parts}
use Rattle.commit_queue.specs.Between.{IsAtRest}
use Rattle.coordinator.specs.declared.cells.Cells.{Cells}
use Rattle.coordinator.specs.Commits.{AreThere, commit_of}
use Rattle.write_back.specs.declared.queue.LateCommits.{LateCommits}

-- the commits of these ballots, each with the cells that the table names
abbrev pub commits_of : Shape → List ℕ → List Cells → List Ballot → List Commit
commits_of shape image cells [] = []
commits_of shape image cells (b ∷ bs) = commit_of shape image b cells ∷ commits_of shape image cells bs

-- the commits of a queue, the oldest first
abbrev pub queue_of : Shape → List ℕ → LateCommits → List Commit
queue_of shape image late = commits_of shape image late.cells late.ballots.items

-- they wait for their write-back, no other row is voted, and the data without them is what a read gives
abbrev pub AreWaiting : Shape → LateCommits → Content → Type 0
AreWaiting shape late content = IsAtRest shape (queue_of shape content.bytes late) (data_of shape content.bytes) content

-- the data with them, in their order
abbrev pub data_with : Shape → LateCommits → List ℕ → List ℕ
data_with shape late image = applied (queue_parts (queue_of shape image late)) (data_of shape image)

-- The queue fits the array: at most as many commits wait as the depth says, each has rows of the array, these name cells that exist,
-- and its order number is above 0.
pub record IsFit (shape : Shape) (late : LateCommits) : Type 0 where
  pub few : length late.ballots.items ≤ late.depth
  pub room : late.depth ≤ vec_capacity late.ballots
  pub there : All (λ (b : Ballot). AreThere shape b late.cells) late.ballots.items
  pub ordered : All (λ (b : Ballot). (0 < b.order) × (b.order < 2 ^ 16)) late.ballots.items
  pub has_rows : All (λ (b : Ballot). (0 < b.mask) × (0 < b.group)) late.ballots.items

-- a queue that fits the array, whose commits wait on this medium
pub record IsQueued (tells : Bool) (shape : Shape) (late : LateCommits) (media : View) : Type 0 where
  pub fit : IsFit shape late
  pub size : media.size ≡ media_len shape
  pub waiting : IsTrue tells → AreWaiting shape late media.content
