-- What one number has logged.
use Rattle.std.specs.Prelude.{ℕ, Bool, false, List, [], length, get_or}
use Rattle.array_shape.specs.declared.shape.Shape.{Shape}
use Rattle.array_shape.specs.Places.{IsPlaced}
use Rattle.array_shape.specs.Logged.{Part}

-- whether the number is live; its parts, in the order in which they were logged; and how many parts it has room for
pub record Log : Type 0 where
  pub is_live : Bool
  pub parts : List (ℕ × List ℕ)
  pub room : ℕ

-- the log of a number
abbrev pub log_at : List Log → ℕ → Log
log_at logs t = get_or logs t (record { is_live = false; parts = []; room = 0 })

-- a nonempty part, within one page of the data
abbrev pub IsWritePart : Shape → Part → Type 0
IsWritePart shape part = IsPlaced shape part.0 (length part.1)
