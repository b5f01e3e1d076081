use Rattle.std.proofs.Common.{◌≡◌, ◌≤◌, not, ◌&&◌, length}
use Rattle.device_recovery.specs.Table.{row_in, decided_in}
use Rattle.device_recovery.proofs.Lists.{first_rows}
use Rattle.device_recovery.proofs.counting.count_rows.Given as goal

abbrev pub invariant-loop-nth : goal.invariant-loop-nth
invariant-loop-nth l =
    record {
      decided : l.report.decided ≡ length (first_rows l.shape (λ g t. decided_in l.shape l.rows g t) l.nth);
      dropped : l.report.dropped ≡ length (first_rows l.shape (λ g t. (row_in l.rows g t).voted && not (decided_in l.shape l.rows g t)) l.nth);
      few_decided : l.report.decided ≤ l.nth;
      few_dropped : l.report.dropped ≤ l.nth;
    }
