-- Where the parts of a write are staged.
use Rattle.std.specs.Prelude.{ℕ, List, length, slice_index}
use Rattle.array_shape.specs.Parts.{write_parts_on}
use Rattle.array_shape.specs.declared.shape.Shape.{Shape}
use Rattle.array_image.specs.Joined.{joined}
use Rattle.logger.specs.Cells.{cell_ranges}

-- the cells, behind the held ones, that a write takes at all loggers
abbrev pub staged_places : Shape → ℕ → List ℕ → ℕ → List ℕ → List (ℕ × ℕ)
staged_places shape t held addr bytes = joined (λ g. cell_ranges shape g t (slice_index held g) (length (write_parts_on shape g addr bytes))) 0 shape.loggers
