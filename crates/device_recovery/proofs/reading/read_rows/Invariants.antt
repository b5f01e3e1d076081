use Rattle.std.proofs.Common.{◌≡◌, ◌+◌, [], length, IsTrue}
use Rattle.array_image.specs.Image.{row_of}
use Rattle.array_image.proofs.Calls.{SoFar}
use Rattle.device_recovery.specs.Table.{row_in}
use Rattle.device_recovery.proofs.Order.{Before}
use Rattle.device_recovery.proofs.reading.read_rows.Given as goal

abbrev pub invariant-loop-nth : goal.invariant-loop-nth
invariant-loop-nth g l =
    let m = g.M.Media in
    record {
      long : length l.rows ≡ 512;
      does : SoFar m.tells [] (m.view l.fn.media) (m.view l.media);
      costs : (m.view l.media).moment ≡ (m.view l.fn.media).moment + l.nth;
      rows : IsTrue m.tells → Before l.shape.loggers (λ h t. row_in l.rows h t ≡ row_of l.shape (m.view l.fn.media).content.bytes h t) l.nth;
    }
