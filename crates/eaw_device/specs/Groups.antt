-- What a table of cells names for the numbers of a group, which are committed at once.
use Rattle.std.specs.Prelude.{ℕ, ◌≡◌, ◌+◌, ◌<◌, ◌≤◌, Bool, true, if◌then◌else◌, List, Result}
use Rattle.std.specs.List.{range_with_len}
use Rattle.pcm_media.specs.View.{View}
use Rattle.array_shape.specs.declared.shape.Shape.{Shape}
use Rattle.array_shape.specs.NumberSet.{has}
use Rattle.array_image.specs.Image.{cell_of, IsGoodCell}
use Rattle.coordinator.specs.declared.cells.Cells.{Cells}
use Rattle.row_bytes.specs.declared.ballot.Ballot.{Ballot}
use Rattle.coordinator.specs.Commits.{IsMaskOf, cells_in, takes_part}
use Rattle.coordinator.specs.Costs.{total}
use Rattle.write_back.specs.declared.entry.Entry.{Entry}
use Rattle.write_back.specs.Entries.{cells_on}
use Rattle.write_back.specs.declared.queue.LateCommits.{LateCommits}
use Rattle.write_back.specs.Steps.{CommitsOne}

-- the cells of a group's numbers exist
abbrev pub HaveCells : Shape → ℕ → List Cells → Type 0
HaveCells shape group cells = (g t : ℕ) → g < shape.loggers → t < shape.numbers → has group t ≡ true → (cells_in cells g t).first + (cells_in cells g t).count ≤ shape.entries

-- and each holds a part of its logger
abbrev pub HaveParts : Shape → List ℕ → ℕ → List Cells → Type 0
HaveParts shape image group cells = (g t e : ℕ) → g < shape.loggers → t < shape.numbers → has group t ≡ true → (cells_in cells g t).first ≤ e → e < (cells_in cells g t).first + (cells_in cells g t).count
    → IsGoodCell shape g (cell_of shape image g t e)

-- the entries in memory of a group's numbers have just these cells, in their order
abbrev pub HaveEntries : Shape → ℕ → List Cells → (ℕ → List Entry) → Type 0
HaveEntries shape group cells entries = (g t : ℕ) → g < shape.loggers → t < shape.numbers → has group t ≡ true → cells_on shape g (entries t) ≡ range_with_len (cells_in cells g t).first (cells_in cells g t).count

-- how many parts they have
abbrev pub group_count : Shape → ℕ → List Cells → ℕ
group_count shape group cells = total (λ t. total (λ g. if has group t then (cells_in cells g t).count else 0) shape.loggers) shape.numbers

-- One more commit of a group: its rows are those of its numbers at each logger at which one of them has a cell.
pub record CommitsGroup {T E : Type 0} (tells : Bool) (shape : Shape) (group : ℕ) (queue : LateCommits) (old : View) (queue_new : LateCommits) (new : View) (result : Result T E) : Type 0 where
  pub ballot : Ballot
  pub group_is : ballot.group ≡ group
  pub mask_is : IsMaskOf shape.loggers (takes_part shape queue.cells group) ballot.mask
  pub does : CommitsOne tells shape ballot queue old queue_new new result
