-- How many calls of the medium a commit makes.
use Rattle.std.specs.Prelude.{ℕ, ◌+◌, ◌*◌, nat_eq, if◌then◌else◌, List, map, sum}
use Rattle.std.specs.List.{range_with_len}
use Rattle.array_shape.specs.declared.shape.Shape.{Shape}
use Rattle.row_bytes.specs.declared.ballot.Ballot.{Ballot}
use Rattle.row_bytes.specs.Ballots.{has_row}
use Rattle.coordinator.specs.declared.cells.Cells.{Cells}
use Rattle.coordinator.specs.Commits.{cells_in}

-- the sum of what a function gives for the numbers below n
abbrev pub total : (ℕ → ℕ) → ℕ → ℕ
total f n = sum (map f (range_with_len 0 n))

-- how many rows a commit has: of one number, and in all
abbrev pub rows_at : Shape → Ballot → ℕ → ℕ
rows_at shape ballot t = total (λ g. if has_row ballot g t then 1 else 0) shape.loggers

abbrev pub rows_in_all : Shape → Ballot → ℕ
rows_in_all shape ballot = total (rows_at shape ballot) shape.numbers

-- how many parts
abbrev pub parts_at : Shape → Ballot → List Cells → ℕ → ℕ
parts_at shape ballot cells t = total (λ g. if has_row ballot g t then (cells_in cells g t).count else 0) shape.loggers

abbrev pub parts_in_all : Shape → Ballot → List Cells → ℕ
parts_in_all shape ballot cells = total (parts_at shape ballot cells) shape.numbers

-- To decide it: for each row the row and its vote, and two barriers.
abbrev pub decide_calls : Shape → Ballot → ℕ
decide_calls shape ballot = 2 * rows_in_all shape ballot + 2

-- To write it back: for each part a read and a write, for each row its vote cleared, and two barriers.
abbrev pub write_back_calls : Shape → Ballot → List Cells → ℕ
write_back_calls shape ballot cells = 2 * parts_in_all shape ballot cells + rows_in_all shape ballot + 2

-- Both; none if no logger takes part.
abbrev pub commit_calls : Shape → Ballot → List Cells → ℕ
commit_calls shape ballot cells = if nat_eq ballot.mask 0 then 0 else decide_calls shape ballot + write_back_calls shape ballot cells
