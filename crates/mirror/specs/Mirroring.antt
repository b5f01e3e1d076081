-- A store that sends what its commits write.
use Rattle.std.specs.Prelude.{ℕ, ◌≡◌, ◌*◌, ◌<◌, Bool, true, false, IsTrue, List, [], length, None}
use Rattle.array_shape.specs.declared.shape.Shape.{Shape}
use Rattle.array_shape.specs.Logged.{Part, ranges_of}
use Rattle.eaw_face.specs.State.{listed, is_one_of}
use Rattle.eaw_face.specs.Causes.{fit}
use Rattle.eaw_face.specs.StoreView.{StoreView}
use Rattle.mirror.specs.Log.{Log}
use Rattle.mirror.specs.Log.{log_at}
use Rattle.eaw_face.specs.Sending.{Sending}

-- the store and the link of a primary; how many frames it has sent; and whether it sends no more
pub record PrimaryView (S L : Type 0) : Type 0 where
  pub store : S
  pub link : L
  pub sent : ℕ
  pub is_down : Bool

-- what a primary has sent
abbrev pub sending_in : {S L : Type 0} → Bool → (L → List (List ℕ)) → (L → ℕ) → PrimaryView S L → Sending
sending_in told frames faults p = record { mirrors = true; told = told; frames = frames p.link; faults = faults p.link; sent = p.sent; is_down = p.is_down }

-- a store as it is, but that it has sent this
abbrev pub over : StoreView → Sending → StoreView
over store sending = record store { sending = sending }

-- these are the parts that number t has logged, and an empty log has room for them
pub record IsCopy (tells : Bool) (store : StoreView) (t : ℕ) (parts : List Part) : Type 0 where
  pub ranges : ranges_of parts ≡ listed (store.ranges t)
  pub parts_are : IsTrue tells → parts ≡ listed (store.state.logs t)
  pub room : fit store.shape [] (ranges_of parts) None

-- a log of each number, with room for all that it may log
pub record AreLogs (shape : Shape) (logs : List Log) : Type 0 where
  pub numbers : length logs ≡ shape.numbers
  pub room : (t : ℕ) → t < shape.numbers → (log_at logs t).room ≡ shape.loggers * shape.entries

-- the logs are copies of what the numbers have logged, as long as the store is not dead
pub record AreCopies (tells : Bool) (store : StoreView) (logs : List Log) : Type 0 where
  pub are : AreLogs store.shape logs
  pub copies : store.is_dead ≡ false → (t : ℕ) → t < store.shape.numbers → IsCopy tells store t (log_at logs t).parts

-- the logs of these numbers are empty now, and the others are as they were
pub record IsFreed (ts : List ℕ) (t : ℕ) (old new : Log) : Type 0 where
  pub room : new.room ≡ old.room
  pub here : is_one_of ts t ≡ true → new.parts ≡ []
  pub there : is_one_of ts t ≡ false → new.parts ≡ old.parts
