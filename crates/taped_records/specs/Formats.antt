-- How a fresh array is made in bytes.
use Rattle.std.specs.Prelude.{ℕ, ℤ, pos, ◌≡◌, ◌⊎◌, List, length}
use Rattle.pcm_media.specs.Replay.{at_rest}
use Rattle.array_shape.specs.declared.shape.Shape.{Shape}
use Rattle.array_shape.specs.Places.{HasNumbers}
use Rattle.eaw_device.specs.Fresh.{IsFresh}
use Rattle.taped_calls.specs.Formats.{IsUnformatted}
use Rattle.taped_records.specs.Status.{bad_shape, no_memory}

-- the bytes hold a fresh array of these numbers; or they are what they were, for a reason that the status tells
abbrev pub Formats : (loggers callers entries pages : ℕ) → (old new : List ℕ) → ℤ → Type 0
Formats loggers callers entries pages old new status =
    ((status ≡ pos 0) × ((shape : Shape) × HasNumbers loggers callers entries pages shape × IsFresh shape (at_rest new)))
    ⊎ ((new ≡ old) × IsUnformatted bad_shape no_memory loggers callers entries pages (length old) status)
