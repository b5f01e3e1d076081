-- What a commit leaves in its rows.
use Rattle.std.specs.Prelude.{ℕ, ◌≡◌, Bool, false, if◌then◌else◌, List, drop, slice_index}
use Rattle.row_bytes.specs.declared.ballot.Ballot.{Ballot}
use Rattle.row_bytes.specs.declared.row.Row.{Row}
use Rattle.row_bytes.specs.Ballots.{group_bytes, has_row}
use Rattle.row_bytes.specs.Written.{row_bytes, row_rest, vote_byte}
use Rattle.coordinator.specs.declared.cells.Cells.{Cells}
use Rattle.coordinator.specs.Commits.{cells_in}

-- the row of number t at logger g: the ballot, of which the group of this number alone is said as 0, and the table's cells
abbrev pub row_with : Ballot → List Cells → Bool → ℕ → ℕ → Row
row_with ballot cells voted g t = record {
  voted = voted;
  mask = ballot.mask;
  first = (cells_in cells g t).first;
  count = (cells_in cells g t).count;
  group = group_bytes t ballot.group;
  order = ballot.order;
}

-- the bytes of a row say that, but for the vote
abbrev pub Says : Ballot → List Cells → ℕ → ℕ → List ℕ → Type 0
Says ballot cells g t bytes = drop 1 bytes ≡ row_rest (row_with ballot cells false g t)

-- their vote is this: byte 0 is 0xC3 or 0
abbrev pub HasVote : Bool → List ℕ → Type 0
HasVote voted bytes = slice_index bytes 0 ≡ vote_byte voted

-- rows, once those of a commit are written, all of them voted or none; no other row changes
abbrev pub with_rows : Ballot → List Cells → Bool → (ℕ → ℕ → List ℕ) → ℕ → ℕ → List ℕ
with_rows ballot cells voted rows g t = if has_row ballot g t then row_bytes (row_with ballot cells voted g t) else rows g t
