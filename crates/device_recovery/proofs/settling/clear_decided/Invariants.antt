use Rattle.std.proofs.Common.{◌≡◌, ◌+◌, ◌≤◌, ◌-◌, ℕ, List, IsTrue}
use Rattle.mars_base.specs.Bytes.{range}
use Rattle.pcm_media.specs.View.{LeavesOnly}
use Rattle.array_image.specs.Standing.{AllSettled, IsRecovering}
use Rattle.array_image.specs.Votes.{votes_of}
use Rattle.array_image.proofs.Calls.{SoFar}
use Rattle.device_recovery.specs.Table.{rows_in_order, RowsLeft, decided_in}
use Rattle.device_recovery.specs.Recovered.{OnlyCleared, SettlesTo, clear_calls, total}
use Rattle.device_recovery.proofs.settling.clear_decided.Given as goal

abbrev pub invariant-loop-order : goal.invariant-loop-order
invariant-loop-order g l =
    let m = g.M.Media in
    let old = m.view l.fn.media in
    let now = m.view l.media in
    record {
      most : l.from ≤ 65536;
      costs : now.moment ≡ old.moment + total (λ o. clear_calls (rows_in_order l.shape l.rows o)) l.from;
      does : SoFar m.tells (votes_of l.shape (decided_in l.shape l.rows)) old now;
      settled : IsTrue m.tells → AllSettled now.content;
      zeros : IsTrue m.tells → OnlyCleared l.shape old.content.bytes now.content.bytes;
      left : IsTrue m.tells → RowsLeft l.shape now.content.bytes l.rows l.from;
      recovering : IsTrue m.tells → (bytes : List ℕ) → IsRecovering l.shape bytes old.content → IsRecovering l.shape bytes now.content;
      time : IsTrue m.tells → (bytes : List ℕ) → IsRecovering l.shape bytes old.content → LeavesOnly (SettlesTo l.shape bytes (range old.content.bytes 0 512)) old now;
    }

abbrev pub decreases-loop-order : goal.decreases-loop-order
decreases-loop-order g l = 65536 - l.from
