use Rattle.std.proofs.Common.{◌≡◌, ◌+◌, ◌/◌, ◌%◌, ◌≤◌, true, [], IsTrue}
use Rattle.array_image.specs.Decided.{decided}
use Rattle.array_image.specs.Standing.{IsGoodRow}
use Rattle.array_image.proofs.Calls.{SoFar}
use Rattle.device_recovery.specs.Table.{row_in, decided_in}
use Rattle.device_recovery.specs.Recovered.{cells_if, total}
use Rattle.device_recovery.proofs.Order.{Before}
use Rattle.device_recovery.proofs.checking.check_rows.Given as goal

abbrev pub invariant-loop-nth : goal.invariant-loop-nth
invariant-loop-nth g l =
    let m = g.M.Media in
    let base = (m.view l.fn.media).content.bytes in
    record {
      does : SoFar m.tells [] (m.view l.fn.media) (m.view l.media);
      good : IsTrue m.tells → Before l.shape.loggers (λ h t. decided l.shape base h t ≡ true → IsGoodRow l.shape base h t) l.nth;
      costs : (m.view l.media).moment ≡ (m.view l.fn.media).moment + total (λ k. cells_if (decided_in l.shape l.rows) (row_in l.rows) (k % l.shape.loggers) (k / l.shape.loggers)) l.nth;
      fits : Before l.shape.loggers (λ h t. decided_in l.shape l.rows h t ≡ true → (row_in l.rows h t).first + (row_in l.rows h t).count ≤ l.shape.entries) l.nth;
    }
