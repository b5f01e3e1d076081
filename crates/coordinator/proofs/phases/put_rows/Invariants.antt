use Rattle.std.proofs.Common.{◌≡◌, ◌+◌, ◌<◌, ℕ, true, IsTrue}
use Rattle.row_bytes.specs.Ballots.{has_row}
use Rattle.array_image.proofs.Calls.{SoFar}
use Rattle.commit_queue.specs.Between.{bodies_of}
use Rattle.commit_queue.specs.Rows.{bytes_of}
use Rattle.coordinator.specs.Costs.{total, rows_at}
use Rattle.coordinator.specs.Rows.{Says}
use Rattle.coordinator.proofs.Members.{AreLeft}
use Rattle.coordinator.proofs.phases.put_rows.Given as goal

abbrev pub invariant-loop-tid : goal.invariant-loop-tid
invariant-loop-tid g l =
    let m = g.M.Media in
    (at : ℕ) × record {
      left : AreLeft l.table.shape.now.numbers l.ballot.group at l.tid-iterator;
      costs : (m.view l.media).moment ≡ (m.view l.fn.media).moment + total (rows_at l.table.shape.now l.ballot) at;
      does : SoFar m.tells (bodies_of l.table.shape.now (has_row l.ballot)) (m.view l.fn.media) (m.view l.media);
      names : IsTrue m.tells → (h t : ℕ) → h < l.table.shape.now.loggers → t < at → has_row l.ballot h t ≡ true → Says l.ballot l.table.cells.now h t (bytes_of l.table.shape.now (m.view l.media).content.bytes h t);
    }
