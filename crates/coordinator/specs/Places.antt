-- Where the phases of a commit write.
use Rattle.std.specs.Prelude.{ℕ, if◌then◌else◌, List, [], ◌∷◌, ◌++◌, ◌+◌}
use Rattle.array_shape.specs.declared.shape.Shape.{Shape}
use Rattle.array_shape.specs.Places.{row_at}
use Rattle.array_shape.specs.Logged.{places_of}
use Rattle.row_bytes.specs.declared.ballot.Ballot.{Ballot}
use Rattle.row_bytes.specs.Ballots.{has_row}
use Rattle.array_image.specs.Joined.{joined}
use Rattle.coordinator.specs.declared.cells.Cells.{Cells}
use Rattle.coordinator.specs.Commits.{parts_named}

-- the votes of a commit's rows of number t, and those rows without their votes
abbrev pub votes_at : Shape → Ballot → ℕ → List (ℕ × ℕ)
votes_at shape ballot t = joined (λ g. if has_row ballot g t then (row_at shape g t, 1) ∷ [] else []) 0 shape.loggers

abbrev pub bodies_at : Shape → Ballot → ℕ → List (ℕ × ℕ)
bodies_at shape ballot t = joined (λ g. if has_row ballot g t then (row_at shape g t + 1, 15) ∷ [] else []) 0 shape.loggers

-- all rows of a commit
abbrev pub row_places : Shape → Ballot → List (ℕ × ℕ)
row_places shape ballot = joined (λ t. joined (λ g. if has_row ballot g t then (row_at shape g t, 16) ∷ [] else []) 0 shape.loggers) 0 shape.numbers

-- the rows, and the parts into the data
abbrev pub commit_places : Shape → List ℕ → Ballot → List Cells → List (ℕ × ℕ)
commit_places shape image ballot cells = row_places shape ballot ++ places_of shape (parts_named shape image ballot cells)
