-- What an opening finds before there is a store.
use Rattle.std.specs.Prelude.{ℕ, None, ◌≡◌, ◌+◌, ◌*◌, Bool, false, nat_eq, if◌then◌else◌, IsTrue, List, [], length, slice_get, vec_capacity}
use Rattle.std.specs.Option.{ForSome}
use Rattle.pcm_media.specs.View.{View}
use Rattle.array_shape.specs.declared.shape.Shape.{Shape}
use Rattle.array_shape.specs.Places.{media_len}
use Rattle.row_bytes.specs.Header.{SaysShape}
use Rattle.array_image.specs.Image.{data_of}
use Rattle.array_image.specs.Decided.{settled_data}
use Rattle.device_recovery.specs.Recovered.{rows_good, HasNoVote}
use Rattle.eaw_device.specs.Opens.{header_of, opening_calls}
use Rattle.eaw_device.specs.Attaching.{AllSay}
use Rattle.eaw_device.specs.Sound.{IsClean}
use Rattle.write_back.specs.Shown.{entries_of, memory_for, memory_of}
use Rattle.write_back.specs.declared.commits.LateData.{LateData}
use Rattle.write_back.specs.Tied.{IsReady, IsTied}
use Rattle.eaw_device.specs.Logs.{IsKept}
use Rattle.eaw_device.specs.declared.log.Log.{Log}

-- the log of a free number, with room for just what it may have
pub record IsFree (shape : Shape) (log : Log) : Type 0 where
  pub kept : IsKept shape log
  pub room : vec_capacity log.entries ≡ shape.loggers * shape.entries
  pub is_free : log.is_live ≡ false

-- a log for each number, all of them free
pub record AreFree (shape : Shape) (logs : List Log) : Type 0 where
  pub many : length logs ≡ shape.numbers
  pub free : (t : ℕ) → ForSome (slice_get logs t) (IsFree shape)

-- no commit waits, and so many may: there is room for so many, and for just the parts that they may have
pub record IsOpened (shape : Shape) (depth : ℕ) (late : LateData) : Type 0 where
  pub ready : IsReady shape late
  pub tied : IsTied shape late (λ t. false)
  pub none : late.queue.ballots.items ≡ []
  pub no_entry : (t : ℕ) → entries_of late.parts t ≡ []
  pub depth_is : late.queue.depth ≡ depth
  pub room : vec_capacity late.queue.ballots ≡ depth
  pub memory : memory_of late.parts ≡ (if nat_eq depth 0 then 0 else memory_for shape)

-- From the medium as it was to what it is now: the array of the shape that its header says, settled and durable.
pub record Settled (tells : Bool) (old : View) (shape : Shape) (new : View) : Type 0 where
  pub shape_is : IsTrue tells → SaysShape (header_of old.content.bytes) shape
  pub sized : old.size ≡ media_len shape
  pub size : new.size ≡ old.size
  pub device : new.device ≡ old.device
  pub good : IsTrue tells → rows_good shape old.content.bytes None
  pub bytes : IsTrue tells → data_of shape new.content.bytes ≡ settled_data shape old.content.bytes
  pub clean : IsTrue tells → IsClean shape new.content
  pub header : IsTrue tells → AllSay shape new.content
  pub faults : new.faults ≡ old.faults
  pub calls : IsTrue tells → HasNoVote shape old.content.bytes → new.moment ≡ old.moment + opening_calls shape
