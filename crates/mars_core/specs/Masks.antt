-- Sets of stripes as the bits of a number.
use Rattle.std.specs.Prelude.{ℕ, ◌≡◌, if◌then◌else◌}
use Rattle.std.specs.Int.{bit_at}
use Rattle.history.specs.Locks.{Touch}
use Rattle.history.specs.declared.locks.Mode.{Mode}
use Rattle.history.specs.declared.locks.Mode.TheVariants.{Shared, Exclusive}
use Rattle.mars_core.specs.declared.masks.Masks.{Masks}

-- each stripe's bit says whether it is touched in the mode
abbrev pub IsMaskOf : Mode → (ℕ → Touch) → ℕ → Type 0
IsMaskOf mode touch mask = (stripe : ℕ) → bit_at mask stripe ≡ (if touch stripe mode then 1 else 0)

-- one mask is of what is touched for reading, and one of what is touched for writing
pub record AreMasksOf (touch : ℕ → Touch) (masks : Masks) : Type 0 where
  pub reads : IsMaskOf Shared touch masks.reads
  pub writes : IsMaskOf Exclusive touch masks.writes
