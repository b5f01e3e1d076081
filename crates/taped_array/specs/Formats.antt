-- How a new array is made in bytes.
use Rattle.std.specs.Prelude.{ℕ, ℤ, pos, ◌≡◌, ◌⊎◌, List, length, replicate}
use Rattle.pcm_media.specs.Replay.{at_rest}
use Rattle.array_shape.specs.declared.shape.Shape.{Shape}
use Rattle.array_shape.specs.Places.{HasNumbers}
use Rattle.eaw_device.specs.Made.{IsMade}
use Rattle.taped_calls.specs.Formats.{IsUnformatted}
use Rattle.taped_array.specs.Status.{bad_shape, no_memory}

-- a page of zeros
abbrev pub zeros : ℕ → List ℕ
zeros page = replicate 512 0

-- the bytes hold a new array of these numbers, whose data is zero; or they are what they were, for a reason that the status tells
abbrev pub Formats : (loggers numbers entries pages : ℕ) → (old new : List ℕ) → ℤ → Type 0
Formats loggers numbers entries pages old new status =
    ((status ≡ pos 0) × ((shape : Shape) × HasNumbers loggers numbers entries pages shape × IsMade shape zeros (at_rest new)))
    ⊎ ((new ≡ old) × IsUnformatted bad_shape no_memory loggers numbers entries pages (length old) status)
