-- Places that no commit that waits needs.
use Rattle.std.specs.Prelude.{ℕ, ◌≡◌, ◌+◌, ◌<◌, ◌≤◌, true, List, [], ◌∷◌}
use Rattle.pcm_media.specs.Images.{IsOutside}
use Rattle.array_shape.specs.declared.shape.Shape.{Shape}
use Rattle.array_shape.specs.Places.{cell_at}
use Rattle.row_bytes.specs.declared.ballot.Ballot.{Ballot}
use Rattle.row_bytes.specs.Ballots.{has_row}
use Rattle.coordinator.specs.declared.cells.Cells.{Cells}
use Rattle.coordinator.specs.Commits.{cells_in}

-- nothing of the cells that these ballots' rows name lies in the ranges
abbrev pub AreSpared : Shape → List Cells → List (ℕ × ℕ) → List Ballot → Type 0
AreSpared shape cells ranges [] = Unit {0}
AreSpared shape cells ranges (b ∷ bs) = ((g t e i : ℕ) → g < shape.loggers → t < shape.numbers → e < shape.entries → has_row b g t ≡ true → (cells_in cells g t).first ≤ e → e < (cells_in cells g t).first + (cells_in cells g t).count
    → cell_at shape g t e ≤ i → i < cell_at shape g t e + 528 → IsOutside ranges i) × AreSpared shape cells ranges bs
