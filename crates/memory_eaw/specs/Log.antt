-- What the numbers have logged, as the model has it.
use Rattle.std.specs.Prelude.{ℕ, zero, suc, ◌≡◌, ◌*◌, ◌≤◌, Bool, false, if◌then◌else◌, List, [], ◌∷◌, length, Option, Some, None, All}
use Rattle.std.specs.Option.{option_map}
use Rattle.array_shape.specs.declared.shape.Shape.{Shape}
use Rattle.array_shape.specs.Logged.{Part, ranges_of}
use Rattle.eaw_face.specs.State.{Logs}
use Rattle.mirror.specs.Log.{Log, IsWritePart}

-- A number that is not live has nothing logged. There is room for just as many parts as all loggers have entries for one number.
pub record IsSoundLog (shape : Shape) (log : Log) : Type 0 where
  pub idle : log.is_live ≡ false → log.parts ≡ []
  pub few : length log.parts ≤ shape.loggers * shape.entries
  pub room : log.room ≡ shape.loggers * shape.entries
  pub placed : All (IsWritePart shape) log.parts

-- what it has logged, as the model has it
abbrev pub log_of : Log → Option (List Part)
log_of log = if log.is_live then Some log.parts else None

-- the same for each number
abbrev pub logged : List Log → Logs Part
logged [] t = None
logged (log ∷ logs) zero = log_of log
logged (log ∷ logs) (suc t) = logged logs t

-- where the logged parts lie
abbrev pub outline : Logs Part → Logs (ℕ × ℕ)
outline logs t = option_map ranges_of (logs t)
