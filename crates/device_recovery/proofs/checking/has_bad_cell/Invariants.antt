use Rattle.std.proofs.Common.{◌≡◌, ◌+◌, ◌<◌, ◌≤◌, ℕ, [], IsTrue}
use Rattle.array_image.specs.Image.{cell_of, IsGoodCell}
use Rattle.array_image.proofs.Calls.{SoFar}
use Rattle.device_recovery.proofs.checking.has_bad_cell.Given as goal

abbrev pub invariant-loop-entry : goal.invariant-loop-entry
invariant-loop-entry g l =
    let m = g.M.Media in
    record {
      moment : (m.view l.media).moment + l.first ≡ (m.view l.fn.media).moment + l.entry;
      does : SoFar m.tells [] (m.view l.fn.media) (m.view l.media);
      good : IsTrue m.tells → (e : ℕ) → l.first ≤ e → e < l.entry → IsGoodCell l.shape l.logger (cell_of l.shape (m.view l.fn.media).content.bytes l.logger l.tid e);
    }
