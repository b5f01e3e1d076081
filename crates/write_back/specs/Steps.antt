-- What a write-back and a commit do to a queue and to the medium.
use Rattle.std.specs.Prelude.{ℕ, ◌≡◌, ◌<◌, Bool, true, false, nat_lt, IsTrue, List, [], ◌∷◌, ◌++◌, Result, OnOk, drop, take}
use Rattle.mars_base.specs.Costs.{Costs}
use Rattle.pcm_media.specs.Images.{IsOutside}
use Rattle.pcm_media.specs.View.{View, LeavesOnly, Writes}
use Rattle.array_shape.specs.declared.shape.Shape.{Shape}
use Rattle.array_shape.specs.Logged.{Part, applied}
use Rattle.row_bytes.specs.declared.ballot.Ballot.{Ballot}
use Rattle.array_image.specs.Standing.{IsEither, SameCells, StandsFor}
use Rattle.commit_queue.specs.Rows.{HasRowBytes, bytes_of, with_votes}
use Rattle.coordinator.specs.Commits.{parts_named}
use Rattle.coordinator.specs.Rows.{with_rows}
use Rattle.write_back.specs.declared.queue.LateCommits.{LateCommits}
use Rattle.write_back.specs.Costs.{calls_back, late_calls}
use Rattle.coordinator.specs.Costs.{decide_calls}
use Rattle.write_back.specs.Orders.{behind, placing, some_row, voted_with, with_one_more}
use Rattle.write_back.specs.Waiting.{AreWaiting, IsFit, data_with}

-- calls that write behind the header alone
pub record WritesBehind {T E : Type 0} (tells : Bool) (old new : View) (result : Result T E) : Type 0 where
  pub places : List (ℕ × ℕ)
  pub behind : (i : ℕ) → i < 512 → IsOutside places i
  pub does : Writes tells places old new result

-- Some of the oldest are written back. What the array stands for stays the same at every moment, and the cells stay. At Ok the vote bytes of
-- their rows are 0, and no other byte of a row changed.
pub record WritesBack {T E : Type 0} (tells : Bool) (shape : Shape) (some : ℕ) (late : LateCommits) (old : View) (late_new : LateCommits) (new : View) (result : Result T E) : Type 0 where
  pub fit : IsFit shape late_new
  pub depth : late_new.depth ≡ late.depth
  pub table : late_new.cells ≡ late.cells
  pub any_moment : IsTrue tells → LeavesOnly (λ image. StandsFor shape image (data_with shape late old.content.bytes)) old new
  pub waiting : IsTrue tells → OnOk result (AreWaiting shape late_new new.content)
  pub same : IsTrue tells → OnOk result (data_with shape late_new new.content.bytes ≡ data_with shape late old.content.bytes)
  pub cells : IsTrue tells → SameCells shape old.content.bytes new.content.bytes
  pub rows : IsTrue tells → OnOk result (HasRowBytes shape new.content.bytes (with_votes (some_row (take some late.ballots.items)) false (bytes_of shape old.content.bytes)))
  pub does : WritesBehind tells old new result
  pub left : OnOk result (late_new.ballots.items ≡ drop some late.ballots.items)
  pub costs : Costs tells (calls_back shape late.cells (take some late.ballots.items)) old.moment new.moment result

-- One more commit, when so many calls are to leave these ballots waiting: at every moment the data before or the data with its parts,
-- and at Ok the latter. The cells stay. At Ok its rows say this ballot, voted if it waits, and of the other rows just the votes of these that
-- made place are cleared.
pub record AddsOne {T E : Type 0} (tells : Bool) (shape : Shape) (ballot said : Ballot) (voted : Bool) (placing left : List Ballot) (calls : ℕ) (late : LateCommits) (old : View) (late_new : LateCommits) (new : View) (result : Result T E) : Type 0 where
  pub fit : IsFit shape late_new
  pub depth : late_new.depth ≡ late.depth
  pub table : late_new.cells ≡ late.cells
  pub any_moment : IsTrue tells → (let before = data_with shape late old.content.bytes in
      LeavesOnly (IsEither shape before (applied (parts_named shape old.content.bytes ballot late.cells) before)) old new)
  pub waiting : IsTrue tells → OnOk result (AreWaiting shape late_new new.content)
  pub committed : IsTrue tells → OnOk result (data_with shape late_new new.content.bytes ≡ applied (parts_named shape old.content.bytes ballot late.cells) (data_with shape late old.content.bytes))
  pub cells : IsTrue tells → SameCells shape old.content.bytes new.content.bytes
  pub rows : IsTrue tells → OnOk result (HasRowBytes shape new.content.bytes (with_rows said late.cells voted (with_votes (some_row placing) false (bytes_of shape old.content.bytes))))
  pub does : WritesBehind tells old new result
  pub left_is : OnOk result (late_new.ballots.items ≡ left)
  pub costs : Costs tells calls old.moment new.moment result

-- where place was made for it, and as a whole
abbrev pub DecidesOne : {T E : Type 0} → Bool → Shape → Ballot → LateCommits → View → LateCommits → View → Result T E → Type 0
DecidesOne tells shape ballot late = let its = behind late.ballots.items ballot in AddsOne tells shape ballot its true [] (late.ballots.items ++ its ∷ []) (decide_calls shape ballot) late

abbrev pub CommitsOne : {T E : Type 0} → Bool → Shape → Ballot → LateCommits → View → LateCommits → View → Result T E → Type 0
CommitsOne tells shape ballot late = AddsOne tells shape ballot (voted_with late.depth late.ballots.items ballot) (nat_lt 0 late.depth) (placing late.depth late.ballots.items) (with_one_more late.depth late.ballots.items ballot) (late_calls shape late.depth late.ballots.items ballot late.cells) late

-- What waits of its numbers is written back, and then these parts are committed: at every moment the data before or the data with them,
-- at Ok the latter. The cells stay.
pub record Commits {T E : Type 0} (tells : Bool) (shape : Shape) (parts : List Part) (calls : ℕ) (queue : LateCommits) (old : View) (queue_new : LateCommits) (new : View) (result : Result T E) : Type 0 where
  pub fit : IsFit shape queue_new
  pub depth : queue_new.depth ≡ queue.depth
  pub any_moment : IsTrue tells → (let before = data_with shape queue old.content.bytes in LeavesOnly (IsEither shape before (applied parts before)) old new)
  pub waiting : IsTrue tells → OnOk result (AreWaiting shape queue_new new.content)
  pub committed : IsTrue tells → OnOk result (data_with shape queue_new new.content.bytes ≡ applied parts (data_with shape queue old.content.bytes))
  pub cells : IsTrue tells → SameCells shape old.content.bytes new.content.bytes
  pub does : WritesBehind tells old new result
  pub costs : Costs tells calls old.moment new.moment result
