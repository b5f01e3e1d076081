-- What the steps of a command do to the medium, and why a write is refused.
use Rattle.std.specs.Prelude.{ℕ, ◌≡◌, ◌<◌, ◌≤◌, Bool, true, false, IsTrue, List, length, Some, None, Result, IfErr, OnOk, slice_get, slice_index}
use Rattle.mars_base.specs.Causes.{Rose}
use Rattle.eaw_face.specs.StoreView.{StoreView, LeavesOnly}
use Rattle.std.specs.Option.{ForSome}
use Rattle.mars_base.specs.Room.{HaveRoom, IsFirstFull}
use Rattle.array_shape.specs.declared.shape.Shape.{Shape}
use Rattle.array_shape.specs.Parts.{parts_on}
use Rattle.eaw_face.specs.declared.fault.EawFault.{EawFault}
use Rattle.eaw_face.specs.declared.fault.EawFault.TheVariants.{UnknownTid, LogFull, Media, Dead}
use Rattle.eaw_device.specs.declared.log.Log.{Log}

-- each logger has room, after the held cells, for its share of the parts of a range
abbrev pub CellsFit : Shape → List ℕ → (addr len : ℕ) → Type 0
CellsFit shape held addr len = HaveRoom shape.loggers shape.entries (λ g. slice_index held g) (λ g. length (parts_on shape g addr len))

-- the refusal of a write names the first logger that has not
abbrev pub SaysFull : Shape → List ℕ → ℕ → ℕ → EawFault → Type 0
SaysFull shape held addr len (LogFull g h n) = IsFirstFull shape.loggers shape.entries (λ k. slice_index held k) (λ k. length (parts_on shape k addr len)) g h n
SaysFull shape held addr len _ = ⊥

-- the log of number t has room at all loggers
abbrev pub LogHasCells : Shape → List Log → ℕ → ℕ → ℕ → Type 0
LogHasCells shape logs t addr len = ForSome (slice_get logs t) (λ log. CellsFit shape log.held addr len)

-- the log of number t lacks room, and the fault says so
pub record LogLacksCells (shape : Shape) (logs : List Log) (t addr len : ℕ) (fault : EawFault) : Type 0 where
  pub log : Log
  pub there : slice_get logs t ≡ Some log
  pub says : SaysFull shape log.held addr len fault

-- why a write into number t is refused
abbrev pub RefusesWrite : Shape → List Log → Bool → ℕ → ℕ → ℕ → EawFault → Type 0
RefusesWrite shape logs is_dead t addr len (UnknownTid u) = (is_dead ≡ false) × (t < shape.numbers → ⊥) × (u ≡ t)
RefusesWrite shape logs is_dead t addr len (LogFull g h n) = (is_dead ≡ false) × (t < shape.numbers) × LogLacksCells shape logs t addr len (LogFull g h n)
RefusesWrite shape logs is_dead t addr len Media = ⊥
RefusesWrite shape logs is_dead t addr len Dead = is_dead ≡ true

-- A write-back changes nothing that a device shows but its moment, and what might have been left opens with its data. If the medium fails, the
-- device is dead.
pub record IsQuiet {T : Type 0} (tells : Bool) (Opens : List ℕ → List ℕ → Type 0) (old new : StoreView) (result : Result T EawFault) : Type 0 where
  pub shape : new.shape ≡ old.shape
  pub depth : new.depth ≡ old.depth
  pub device : new.device ≡ old.device
  pub ranges : new.ranges ≡ old.ranges
  pub sending : new.sending ≡ old.sending
  pub later : old.faults ≤ new.faults
  pub kept : OnOk result (new.faults ≡ old.faults)
  pub alive : OnOk result (new.is_dead ≡ false)
  pub state : IsTrue tells → OnOk result (new.state ≡ old.state)
  pub failed : IfErr result (λ fault. (fault ≡ Media) × (new.is_dead ≡ true) × Rose old.faults new.faults)
  pub time : IsTrue tells → LeavesOnly (λ image. Opens image old.state.bytes) old new
