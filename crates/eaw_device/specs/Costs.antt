-- How many calls of its medium each command of a device makes.
use Rattle.std.specs.Prelude.{ℕ, ◌+◌, ◌*◌, ◌^◌, min, nat_eq, nat_lt, filter, if◌then◌else◌, List, [], ◌∷◌, length, drop, take}
use Rattle.std.specs.Int.RustNames.{bit_or}
use Rattle.array_shape.specs.declared.shape.Shape.{Shape}
use Rattle.array_shape.specs.Parts.{parts_of_write}
use Rattle.array_shape.specs.Logged.{ranges_of}
use Rattle.coordinator.specs.Costs.{total}
use Rattle.eaw_face.specs.State.{Logs, listed, group_log, count_on}
use Rattle.eaw_face.specs.StoreView.{StoreView}
use Rattle.write_back.specs.Reading.{read_calls}
use Rattle.write_back.specs.Shown.{entries_of}
use Rattle.write_back.specs.declared.queue.LateCommits.{LateCommits}
use Rattle.write_back.specs.Costs.{calls_back}
use Rattle.write_back.specs.Orders.{due_for, due_for_place}
use Rattle.write_back.specs.declared.commits.LateData.{LateData}
use Rattle.eaw_face.specs.Command.{Command, log_write, log_edit, commit, commit_group, abort, nested_top, partial_abort, atomic_write, log_read, read}

-- how many loggers have one of these ranges
abbrev pub loggers_with : Shape → List (ℕ × ℕ) → ℕ
loggers_with shape ranges = total (λ g. min (count_on shape g ranges) 1) shape.loggers

-- which of these numbers have logged anything
abbrev pub with_entries : Logs (ℕ × ℕ) → List ℕ → List ℕ
with_entries ranges ts = filter (λ t. nat_lt 0 (length (listed (ranges t)))) ts

-- the group of these numbers, one bit each
abbrev pub group_of : List ℕ → ℕ
group_of [] = 0
group_of (t ∷ ts) = bit_or (2 ^ t) (group_of ts)

-- what waits of a group's numbers is written back
abbrev pub back_cost : Shape → LateCommits → ℕ → ℕ
back_cost shape queue group = let bs = queue.ballots.items in calls_back shape queue.cells (take (due_for group bs) bs)

-- and after that what makes place for one more
abbrev pub place_cost : Shape → LateCommits → ℕ → ℕ
place_cost shape queue group = let left = drop (due_for group queue.ballots.items) queue.ballots.items in calls_back shape queue.cells (take (due_for_place queue.depth left) left)

-- One more commit, of so many numbers and of these ranges. For each number at each logger that has a range there are its row and its vote,
-- and two barriers. If none may wait, there are besides for each part a read and a write, each vote cleared, and two more barriers; else
-- what makes place for it.
abbrev pub joining_cost : Shape → LateCommits → ℕ → ℕ → List (ℕ × ℕ) → ℕ
joining_cost shape queue group numbers ranges = let rows = numbers * loggers_with shape ranges in
    if nat_eq queue.depth 0 then 3 * rows + 2 * length ranges + 4 else place_cost shape queue group + (2 * rows + 2)

-- The calls of a commit of these numbers, which have these ranges: none if there is no range; else what waits of the numbers is written
-- back, and one more commit is made.
abbrev pub commit_cost : Shape → LateCommits → List ℕ → List (ℕ × ℕ) → ℕ
commit_cost shape queue ts ranges = if nat_eq (length ranges) 0 then 0 else back_cost shape queue (group_of ts) + joining_cost shape queue (group_of ts) (length ts) ranges

-- One for each part of a write into a log, before which what waits of its number is written back; one for a part that is edited or read;
-- one for each part of a read of data and one for each part in its range that waits for its write-back. An abort costs nothing.
abbrev pub calls_of : Command → LateData → StoreView → ℕ
calls_of (log_write t addr bytes) late store = back_cost store.shape late.queue (2 ^ t) + length (parts_of_write addr bytes)
calls_of (log_edit t pos at bytes) late store = 1
calls_of (commit t) late store = commit_cost store.shape late.queue (t ∷ []) (listed (store.ranges t))
calls_of (commit_group ts) late store = commit_cost store.shape late.queue (with_entries store.ranges ts) (group_log store.ranges ts)
calls_of (abort t) late store = 0
calls_of (nested_top t offset) late store = commit_cost store.shape late.queue (t ∷ []) (drop offset (listed (store.ranges t)))
calls_of (partial_abort t offset) late store = 0
calls_of (atomic_write t addr bytes) late store = length (parts_of_write addr bytes) + commit_cost store.shape late.queue (t ∷ []) (ranges_of (parts_of_write addr bytes))
calls_of (log_read t) late store = 1
calls_of (read addr len) late store = read_calls store.shape (entries_of late.parts) late.queue.ballots.items addr len
