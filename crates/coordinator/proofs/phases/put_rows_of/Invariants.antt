use Rattle.std.proofs.Common.{◌≡◌, ◌+◌, ◌<◌, ℕ, cond, true, IsTrue}
use Rattle.row_bytes.specs.Ballots.{has_row}
use Rattle.array_image.proofs.Calls.{SoFar}
use Rattle.commit_queue.specs.Rows.{bytes_of}
use Rattle.coordinator.specs.Costs.{total}
use Rattle.coordinator.specs.Places.{bodies_at}
use Rattle.coordinator.specs.Rows.{Says}
use Rattle.coordinator.proofs.Members.{AreLeft}
use Rattle.coordinator.proofs.phases.put_rows_of.Given as goal

abbrev pub invariant-loop-number : goal.invariant-loop-number
invariant-loop-number g l =
    let m = g.M.Media in
    (at : ℕ) × record {
      left : AreLeft l.table.shape.now.loggers l.ballot.mask at l.number-iterator;
      costs : (m.view l.media).moment ≡ (m.view l.fn.media).moment + total (λ h. cond (has_row l.ballot h l.tid) 1 0) at;
      does : SoFar m.tells (bodies_at l.table.shape.now l.ballot l.tid) (m.view l.fn.media) (m.view l.media);
      names : IsTrue m.tells → (h : ℕ) → h < at → has_row l.ballot h l.tid ≡ true → Says l.ballot l.table.cells.now h l.tid (bytes_of l.table.shape.now (m.view l.media).content.bytes h l.tid);
    }
