-- The commit that a ballot and a table of cells name, and when it may be made.
use Rattle.std.specs.Prelude.{ℕ, ◌≡◌, ◌+◌, ◌*◌, ◌^◌, ◌<◌, ◌≤◌, Bool, true, false, ◌&&◌, nat_lt, List, [], slice_index_or}
use Rattle.array_shape.specs.declared.shape.Shape.{Shape}
use Rattle.array_shape.specs.Logged.{Part}
use Rattle.row_bytes.specs.declared.ballot.Ballot.{Ballot}
use Rattle.array_shape.specs.NumberSet.{has}
use Rattle.row_bytes.specs.Ballots.{has_row}
use Rattle.array_image.specs.Joined.{joined}
use Rattle.array_image.specs.Image.{cell_of, IsGoodCell}
use Rattle.commit_queue.specs.Queue.{Commit, Each, named_at, named_parts, some_has}
use Rattle.commit_queue.specs.Deferred.{any_below}
use Rattle.coordinator.specs.declared.cells.Cells.{Cells}

abbrev pub no_cells : Cells
no_cells = record { first = 0; count = 0 }

-- the cells of number t at logger g: a table has eight places for each number
abbrev pub cells_in : List Cells → ℕ → ℕ → Cells
cells_in cells g t = slice_index_or cells (8 * t + g) no_cells

-- the commit of these parts that has the ballot's rows, each with the table's cells
abbrev pub commit_with : Ballot → List Cells → List Part → Commit
commit_with ballot cells parts = record {
  ballot = ballot;
  first = λ g t. (cells_in cells g t).first;
  count = λ g t. (cells_in cells g t).count;
  parts = parts;
}

-- the parts in the cells of number t, by rising logger and cell
abbrev pub number_parts : Shape → List ℕ → Ballot → List Cells → ℕ → List Part
number_parts shape image ballot cells t = joined (named_at shape image (commit_with ballot cells []) t) 0 shape.loggers

-- those of all numbers, by rising number
abbrev pub parts_named : Shape → List ℕ → Ballot → List Cells → List Part
parts_named shape image ballot cells = named_parts shape image (commit_with ballot cells [])

abbrev pub commit_of : Shape → List ℕ → Ballot → List Cells → Commit
commit_of shape image ballot cells = commit_with ballot cells (parts_named shape image ballot cells)

-- a number of a group names a cell at logger g
abbrev pub takes_part : Shape → List Cells → ℕ → ℕ → Bool
takes_part shape cells group g = any_below shape.numbers (λ t. has group t && nat_lt 0 (cells_in cells g t).count)

-- a mask has just the loggers that a test takes
pub record IsMaskOf (loggers : ℕ) (test : ℕ → Bool) (mask : ℕ) : Type 0 where
  pub small : mask < 2 ^ loggers
  pub is : (g : ℕ) → g < loggers → has mask g ≡ test g

-- the ballot has only loggers and numbers of the array, and its rows name cells that exist
pub record AreThere (shape : Shape) (ballot : Ballot) (cells : List Cells) : Type 0 where
  pub small_mask : ballot.mask < 2 ^ shape.loggers
  pub small_group : ballot.group < 2 ^ shape.numbers
  pub fit : (g t : ℕ) → g < shape.loggers → t < shape.numbers → has_row ballot g t ≡ true → (cells_in cells g t).first + (cells_in cells g t).count ≤ shape.entries

-- each of these cells holds a part of its logger
abbrev pub AreGood : Shape → List ℕ → Ballot → List Cells → Type 0
AreGood shape image ballot cells = (g t e : ℕ) → g < shape.loggers → t < shape.numbers → has_row ballot g t ≡ true → (cells_in cells g t).first ≤ e → e < (cells_in cells g t).first + (cells_in cells g t).count → IsGoodCell shape g (cell_of shape image g t e)

-- the commit may join a queue: its order number is above theirs, and none of them has one of its rows
pub record MayJoin (shape : Shape) (queue : List Commit) (ballot : Ballot) : Type 0 where
  pub later : Each (λ c. c.ballot.order < ballot.order) queue
  pub apart : (g t : ℕ) → g < shape.loggers → t < shape.numbers → has_row ballot g t ≡ true → some_has queue g t ≡ false

-- a commit of a queue has this ballot, and in its rows these cells
pub record Names (shape : Shape) (ballot : Ballot) (cells : List Cells) (c : Commit) : Type 0 where
  pub ballot_is : c.ballot ≡ ballot
  pub first_is : (g t : ℕ) → g < shape.loggers → t < shape.numbers → has_row ballot g t ≡ true → c.first g t ≡ (cells_in cells g t).first
  pub count_is : (g t : ℕ) → g < shape.loggers → t < shape.numbers → has_row ballot g t ≡ true → c.count g t ≡ (cells_in cells g t).count
