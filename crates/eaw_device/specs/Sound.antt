-- What a device keeps true, and what it shows.
use Rattle.std.specs.Prelude.{ℕ, ◌≡◌, ◌<◌, ◌≤◌, Bool, true, false, IsTrue, if◌then◌else◌, List, [], length, slice_get, slice_index, Some}
use Rattle.std.specs.Option.{ForSome}
use Rattle.pcm_media.specs.Images.{Content, MayLeave}
use Rattle.pcm_media.specs.View.{View}
use Rattle.array_shape.specs.declared.shape.Shape.{Shape}
use Rattle.array_shape.specs.Places.{media_len, IsShape}
use Rattle.row_bytes.specs.Header.{SaysShape}
use Rattle.array_image.specs.Image.{data_of}
use Rattle.commit_queue.specs.Between.{IsAtRest}
use Rattle.write_back.specs.declared.queue.LateCommits.{LateCommits}
use Rattle.coordinator.specs.Commits.{cells_in}
use Rattle.write_back.specs.Waiting.{AreWaiting, data_with}
use Rattle.write_back.specs.Entries.{AreHeld}
use Rattle.write_back.specs.Shown.{entries_of}
use Rattle.write_back.specs.Turns.{has_some}
use Rattle.write_back.specs.declared.commits.LateData.{LateData}
use Rattle.write_back.specs.Tied.{IsReady, IsTied}
use Rattle.eaw_face.specs.Sending.{silent}
use Rattle.eaw_face.specs.StoreView.{StoreView, IsLive}
use Rattle.eaw_face.specs.Command.{commit_group}
use Rattle.eaw_face.specs.Causes.{known}
use Rattle.eaw_face.specs.declared.fault.EawFault.{EawFault}
use Rattle.eaw_face.specs.declared.fault.EawFault.TheVariants.{UnknownTid, Dead}
use Rattle.eaw_device.specs.declared.log.Log.{Log}
use Rattle.eaw_device.specs.Opens.{header_of}
use Rattle.eaw_device.specs.Logs.{ranges_logged, parts_logged, IsKept, IsHeld}

-- no commit waits for its write-back, no row is voted, and the data is what a read gives, in every image that may be left
abbrev pub IsClean : Shape → Content → Type 0
IsClean shape content = IsAtRest shape [] (data_of shape content.bytes) content

-- In each image that a loss of power may leave, the commits of the queue wait for their write-back, no other row is voted, and the header is
-- that of the array.
pub record IsSure (shape : Shape) (queue : LateCommits) (content : Content) : Type 0 where
  pub waiting : AreWaiting shape queue content
  pub header : (image : List ℕ) → MayLeave content image → SaysShape (header_of image) shape

-- So it is, and the cells hold what memory says of the commits that wait and of the log of each number.
pub record IsTold (shape : Shape) (late : LateData) (content : Content) (logs : List Log) : Type 0 where
  pub sure : IsSure shape late.queue content
  pub shown : AreHeld shape content.bytes (entries_of late.parts)
  pub held : (t : ℕ) → ForSome (slice_get logs t) (IsHeld shape content.bytes t)

-- the cells of a number's log come before those of its commit that waits
abbrev pub IsBefore : Shape → LateCommits → ℕ → Log → Type 0
IsBefore shape queue t log = has_some queue.ballots.items t ≡ true → (g : ℕ) → g < shape.loggers → slice_index log.held g ≤ (cells_in queue.cells g t).first

-- what memory says of the commits that wait fits together, and with the logs
pub record IsInOrder (shape : Shape) (late : LateData) (logs : List Log) : Type 0 where
  pub tied : IsTied shape late (λ t. false)
  pub before : (t : ℕ) → ForSome (slice_get logs t) (IsBefore shape late.queue t)

-- The medium is as long as the array, which has a log for each number. While the device is not dead, its memory is in order, and what the
-- medium tells is the array with these logs and these commits that wait.
pub record IsSound (tells : Bool) (media : View) (shape : Shape) (logs : List Log) (late : LateData) (is_dead : Bool) : Type 0 where
  pub shaped : IsShape shape
  pub sized : media.size ≡ media_len shape
  pub many : length logs ≡ shape.numbers
  pub kept : (t : ℕ) → ForSome (slice_get logs t) (IsKept shape)
  pub ready : IsReady shape late
  pub in_order : is_dead ≡ false → IsInOrder shape late logs
  pub told : IsTrue tells → is_dead ≡ false → IsTold shape late media.content logs

-- how many commits wait
abbrev pub deferred_of : LateData → ℕ
deferred_of late = length late.queue.ballots.items

-- the data that it shows: that of the array with the commits that wait; once it is dead nothing is said of these
abbrev pub shown : Shape → LateData → Bool → List ℕ → List ℕ
shown shape late is_dead image = if is_dead then data_of shape image else data_with shape late.queue image

-- what a device shows
abbrev pub view_of : View → Shape → List Log → LateData → Bool → StoreView
view_of media shape logs late is_dead = record {
  shape = shape;
  depth = late.queue.depth;
  state = record { bytes = shown shape late is_dead media.content.bytes; logs = parts_logged shape media.content.bytes logs };
  ranges = ranges_logged logs;
  is_dead = is_dead;
  faults = media.faults;
  moment = media.moment;
  left_since = media.left_since;
  device = media.device;
  sending = silent;
}

-- why a commit of these numbers has no logs to work on
abbrev pub LacksGroup : StoreView → List ℕ → EawFault → Type 0
LacksGroup store ts (UnknownTid u) = (store.is_dead ≡ false) × known store (commit_group ts) (Some u)
LacksGroup store ts Dead = store.is_dead ≡ true
LacksGroup store ts _ = ⊥

-- why a number has no log to work on
abbrev pub LacksLog : StoreView → ℕ → EawFault → Type 0
LacksLog store t (UnknownTid u) = (store.is_dead ≡ false) × (IsLive store t → ⊥) × (u ≡ t)
LacksLog store t Dead = store.is_dead ≡ true
LacksLog store t _ = ⊥
