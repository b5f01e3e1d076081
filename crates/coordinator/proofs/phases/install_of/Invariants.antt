use Rattle.std.proofs.Common.{◌≡◌, ℕ, ◌*◌, cond, [], IsTrue}
use Rattle.mars_base.proofs.Costing.{CostsSoFar}
use Rattle.row_bytes.specs.Ballots.{has_row}
use Rattle.array_shape.specs.Logged.{applied, places_of}
use Rattle.array_image.specs.Image.{data_of}
use Rattle.array_image.specs.Joined.{joined}
use Rattle.array_image.proofs.Calls.{SoFar}
use Rattle.commit_queue.specs.Queue.{named_at}
use Rattle.coordinator.specs.Commits.{cells_in, commit_with, number_parts}
use Rattle.coordinator.specs.Costs.{total}
use Rattle.coordinator.proofs.Members.{AreLeft}
use Rattle.coordinator.proofs.phases.install_of.Given as goal

abbrev pub invariant-loop-number : goal.invariant-loop-number
invariant-loop-number g l =
    let m = g.M.Media in
    let base = (m.view l.fn.media).content.bytes in
    (at : ℕ) × record {
      left : AreLeft l.table.shape.now.loggers l.fn.ballot.mask at l.number-iterator;
      costs : CostsSoFar m.tells (2 * total (λ h. cond (has_row l.fn.ballot h l.tid) (cells_in l.table.cells.now h l.tid).count 0) at) (m.view l.fn.media).moment (m.view l.media).moment;
      does : SoFar m.tells (places_of l.table.shape.now (number_parts l.table.shape.now base l.fn.ballot l.table.cells.now l.tid)) (m.view l.fn.media) (m.view l.media);
      applied : IsTrue m.tells → data_of l.table.shape.now (m.view l.media).content.bytes ≡ applied (joined (named_at l.table.shape.now base (commit_with l.fn.ballot l.table.cells.now []) l.tid) 0 at) (data_of l.table.shape.now base);
    }
