-- How large an array is, why none is made in bytes, and what is opened in them.
use Rattle.std.specs.Prelude.{ℕ, ℤ, ◌≡◌, ◌≢◌, ◌⊎◌, false, List, []}
use Rattle.tape_media.specs.Tape.{Tape}
use Rattle.array_shape.specs.declared.shape.Shape.{Shape}
use Rattle.array_shape.specs.Numbers.{AreInRange}
use Rattle.array_shape.specs.Places.{HasNumbers, media_len}

-- it is how many bytes the array of these numbers takes; or 0, and there is none
abbrev pub IsSize : (loggers numbers entries pages : ℕ) → ℕ → Type 0
IsSize loggers numbers entries pages size =
    ((shape : Shape) × HasNumbers loggers numbers entries pages shape × (size ≡ media_len shape))
    ⊎ ((size ≡ 0) × (AreInRange loggers numbers entries pages → ⊥))

-- Why no array of this shape is made in so many bytes: the shape has another length, or it has this one, and memory ran out. These are the
-- two statuses.
abbrev pub IsUnmade : (bad_shape no_memory : ℤ) → Shape → ℕ → ℤ → Type 0
IsUnmade bad_shape no_memory shape size status =
    ((status ≡ bad_shape) × (size ≢ media_len shape))
    ⊎ ((status ≡ no_memory) × (size ≡ media_len shape))

-- why no array of these numbers is made in so many bytes: a number is out of range, or the shape that has them is not made
abbrev pub IsUnformatted : (bad_shape no_memory : ℤ) → (loggers numbers entries pages size : ℕ) → ℤ → Type 0
IsUnformatted bad_shape no_memory loggers numbers entries pages size status =
    ((status ≡ bad_shape) × (AreInRange loggers numbers entries pages → ⊥))
    ⊎ ((shape : Shape) × HasNumbers loggers numbers entries pages shape × IsUnmade bad_shape no_memory shape size status)

-- these bytes, with nothing to be done
abbrev pub fresh : List ℕ → Tape
fresh bytes = record { past = record { start = bytes; done = []; ahead = [] }; moment = 0; faults = 0; has_failed = false }
