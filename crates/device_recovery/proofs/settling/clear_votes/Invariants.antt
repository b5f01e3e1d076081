use Rattle.std.proofs.Common.{◌≡◌, ◌+◌, length, true, false, IsTrue}
use Rattle.array_image.specs.Image.{row_of}
use Rattle.array_image.specs.Votes.{votes_of}
use Rattle.array_image.proofs.Calls.{SoFar}
use Rattle.device_recovery.specs.Table.{is_one_of}
use Rattle.device_recovery.specs.Recovered.{OnlyCleared}
use Rattle.device_recovery.proofs.Lists.{first_rows}
use Rattle.device_recovery.proofs.Order.{Before}
use Rattle.device_recovery.proofs.settling.clear_votes.Given as goal

abbrev pub invariant-loop-nth : goal.invariant-loop-nth
invariant-loop-nth g l =
    let m = g.M.Media in
    record {
      costs : (m.view l.media).moment ≡ (m.view l.fn.media).moment + length (first_rows l.shape (is_one_of l.shape l.rows l.which) l.nth);
      does : SoFar m.tells (votes_of l.shape (is_one_of l.shape l.rows l.which)) (m.view l.fn.media) (m.view l.media);
      zeros : IsTrue m.tells → OnlyCleared l.shape (m.view l.fn.media).content.bytes (m.view l.media).content.bytes;
      cleared : IsTrue m.tells → Before l.shape.loggers (λ h t. is_one_of l.shape l.rows l.which h t ≡ true → (row_of l.shape (m.view l.media).content.bytes h t).voted ≡ false) l.nth;
    }
