-- What an image of an array opens with, and what an opening finds.
use Rattle.std.specs.Prelude.{ℕ, ◌≡◌, ◌+◌, ◌*◌, ◌≤◌, ◌⊎◌, Bool, false, IsTrue, IsFalse, List, [], Some, None}
use Rattle.mars_base.specs.Causes.{Rose}
use Rattle.mars_base.specs.Moments.{Elapses}
use Rattle.mars_base.specs.Bytes.{range}
use Rattle.pcm_media.specs.Images.{Content, MayLeave, Touched}
use Rattle.pcm_media.specs.View.{View}
use Rattle.array_shape.specs.declared.shape.Shape.{Shape}
use Rattle.array_shape.specs.Places.{media_len}
use Rattle.row_bytes.specs.Header.{HasMark, SaysShape, IsBadIn}
use Rattle.array_image.specs.Decided.{settled_data}
use Rattle.array_image.specs.Standing.{StandsFor}
use Rattle.device_recovery.specs.Recovered.{rows_good, HasNoVote}
use Rattle.eaw_face.specs.StoreView.{StoreView}
use Rattle.eaw_device.specs.declared.fault.AttachFault.{AttachFault}
use Rattle.eaw_device.specs.declared.fault.AttachFault.TheVariants.{NotMars, BadShape, BadRow, Media, NoMemory}

-- the first 512 bytes
abbrev pub header_of : List ℕ → List ℕ
header_of image = range image 0 512

-- Its header says the shape, it is lawful, and it settles to this data.
pub record Opens (shape : Shape) (image bytes : List ℕ) : Type 0 where
  pub header : SaysShape (header_of image) shape
  pub stands : StandsFor shape image bytes

-- each image that a loss of power may leave opens with some data
abbrev pub AllOpen : Shape → Content → Type 0
AllOpen shape content = (image : List ℕ) → MayLeave content image → (bytes : List ℕ) × Opens shape image bytes

-- an image opens with the data of one that could be left at first
abbrev pub OpensLike : Shape → Content → List ℕ → Type 0
OpensLike shape content image = (earlier : List ℕ) × MayLeave content earlier × (bytes : List ℕ) × Opens shape earlier bytes × Opens shape image bytes

-- An opening keeps what an array stands for, at each of its moments: if all that could be left at first opens, so does all
-- that is new among what might have been left, with data of the former.
abbrev pub KeepsData : Bool → View → ℕ → (ℕ → List ℕ → Type 0) → Type 0
KeepsData tells media now since = IsTrue tells → (shape : Shape) → AllOpen shape media.content → Elapses media.moment now media.left_since since (OpensLike shape media.content)

-- how many calls of the medium an opening makes if no row is voted: a read of the header, a barrier, and a read of each row
abbrev pub opening_calls : Shape → ℕ
opening_calls shape = 2 + shape.loggers * shape.numbers

-- an opening made at most this many calls of the medium, if the header says a shape and no row is voted
abbrev pub OpensWithin : Bool → View → ℕ → Type 0
OpensWithin tells media now = IsTrue tells → (shape : Shape) → SaysShape (header_of media.content.bytes) shape → HasNoVote shape media.content.bytes → now ≤ media.moment + opening_calls shape

-- A store over the medium: it has the shape that the header says and the data that the array settles to, and no number is live.
pub record Attached (tells : Bool) (media : View) (store : StoreView) : Type 0 where
  pub shape_is : IsTrue tells → SaysShape (header_of media.content.bytes) store.shape
  pub sized : media.size ≡ media_len store.shape
  pub good : IsTrue tells → rows_good store.shape media.content.bytes None
  pub bytes : IsTrue tells → store.state.bytes ≡ settled_data store.shape media.content.bytes
  pub free : (t : ℕ) → store.ranges t ≡ None
  pub unlogged : (t : ℕ) → store.state.logs t ≡ None
  pub alive : store.is_dead ≡ false
  pub faults : store.faults ≡ media.faults
  pub device : store.device ≡ media.device
  pub calls : IsTrue tells → HasNoVote store.shape media.content.bytes → store.moment ≡ media.moment + opening_calls store.shape

-- an image that opens with some data, in some shape, was opened as just that
abbrev pub FindsData : Bool → View → StoreView → Type 0
FindsData tells media store = IsTrue tells → (shape : Shape) (bytes : List ℕ) → Opens shape media.content.bytes bytes → (store.shape ≡ shape) × (store.state.bytes ≡ bytes)

-- The medium holds an array: its header says this shape, it has the length of that shape, and each decided row is good.
pub record IsArray (shape : Shape) (media : View) : Type 0 where
  pub header : SaysShape (header_of media.content.bytes) shape
  pub sized : media.size ≡ media_len shape
  pub good : rows_good shape media.content.bytes None

-- the medium holds an array of some shape
abbrev pub HoldsArray : View → Type 0
HoldsArray media = (shape : Shape) × IsArray shape media

-- the medium would hold an array, but a decided row is bad, and this is the first one
abbrev pub HasBadRow : View → ℕ → ℕ → Type 0
HasBadRow media g t =
    (shape : Shape) × SaysShape (header_of media.content.bytes) shape × (media.size ≡ media_len shape) × rows_good shape media.content.bytes (Some (g, t))

-- why a medium is not opened, after which `faults` faults are counted
abbrev pub AttachCause : Bool → View → ℕ → AttachFault → Type 0
AttachCause tells media faults NotMars = 512 ≤ media.size → IsTrue tells → HasMark (header_of media.content.bytes) → ⊥
AttachCause tells media faults (BadShape bad) = (512 ≤ media.size) × (IsTrue tells → HasMark (header_of media.content.bytes) × IsBadIn (header_of media.content.bytes) media.size bad.which bad.given)
AttachCause tells media faults (BadRow g t) = IsTrue tells → HasBadRow media g t
AttachCause tells media faults Media = Rose media.faults faults
AttachCause tells media faults NoMemory = IsTrue tells → (shape : Shape) × SaysShape (header_of media.content.bytes) shape × (media.size ≡ media_len shape)

-- Nothing was written, unless the medium failed while an array was settled: then some of that may be done.
abbrev pub AttachLeaves : Bool → View → View → AttachFault → Type 0
AttachLeaves tells old new Media = IsTrue tells → Touched [] old.content new.content ⊎ HoldsArray old
AttachLeaves tells old new _ = IsTrue tells → Touched [] old.content new.content

-- The medium behind a store: its moments and faults are the store's; if that was not dead, it settles to the store's data, and if no
-- commit may wait for its write-back, no row is voted.
pub record IsBehind (tells defers : Bool) (store : StoreView) (media : View) : Type 0 where
  pub size : media.size ≡ media_len store.shape
  pub bytes : IsTrue tells → store.is_dead ≡ false → settled_data store.shape media.content.bytes ≡ store.state.bytes
  pub quiet : IsTrue tells → store.is_dead ≡ false → IsFalse defers → HasNoVote store.shape media.content.bytes
  pub faults : media.faults ≡ store.faults
  pub moment : media.moment ≡ store.moment
  pub device : media.device ≡ store.device
  pub left : (t : ℕ) (image : List ℕ) → media.left_since t image → store.left_since t image
