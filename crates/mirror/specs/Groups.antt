-- What several numbers have logged, as the groups of a frame.
use Rattle.std.specs.Prelude.{ℕ, ◌^◌, ◌<◌, List, length, flat_map, All}
use Rattle.array_shape.specs.declared.shape.Shape.{Shape}
use Rattle.mirror.specs.Log.{Log}
use Rattle.mirror.specs.Log.{log_at}
use Rattle.eaw_face.specs.Frame.{Group}
use Rattle.mirror.specs.Sending.{IsSendable, HasBytes, AreShort, group_of}

-- a group for each of these numbers that has logged anything
abbrev pub groups_of : List Log → List ℕ → List Group
groups_of logs ts = flat_map (λ t. group_of t (log_at logs t).parts) ts

-- what a number has logged can go into a frame
pub record IsSendableAt (shape : Shape) (logs : List Log) (t : ℕ) : Type 0 where
  pub number : t < shape.numbers
  pub here : t < length logs
  pub log : IsSendable shape (log_at logs t).parts

-- the same of each of these numbers
abbrev pub AreSendable : Shape → List Log → List ℕ → Type 0
AreSendable shape logs ts = All (IsSendableAt shape logs) ts

-- there is a log of this number, of parts that fit into a frame
pub record IsListed (logs : List Log) (t : ℕ) : Type 0 where
  pub here : t < length logs
  pub short : AreShort (log_at logs t).parts
  pub few : length (log_at logs t).parts < 2 ^ 16

-- the parts of this number are of bytes
abbrev pub HasByteLog : List Log → ℕ → Type 0
HasByteLog logs t = All HasBytes (log_at logs t).parts
