use Rattle.std.proofs.Common.{◌≡◌, ◌+◌, ℕ, List, [], length, take}
use Rattle.std.specs.Prelude.{IsTrue, count_by}
use Rattle.mars_base.specs.Bytes.{range}
use Rattle.array_shape.specs.Places.{data_len}
use Rattle.array_shape.specs.Logged.{applied}
use Rattle.array_image.proofs.Calls.{SoFar}
use Rattle.write_back.specs.Turns.{in_turn, parts_in_turn}
use Rattle.write_back.specs.Shown.{entries_of}
use Rattle.write_back.specs.Reading.{meets}
use Rattle.write_back.proofs.deferred.DeferredParts.lay_queue.Given as goal

abbrev pub invariant-loop-ballot : goal.invariant-loop-ballot
invariant-loop-ballot g l =
    let m = g.M.Media in
    record {
      costs : (m.view l.media).moment ≡ (m.view l.fn.media).moment + count_by (meets l.addr (length l.fn.buf)) (in_turn l.self.shape (entries_of l.self) (take l.ballot-index l.queue));
      does : SoFar m.tells [] (m.view l.fn.media) (m.view l.media);
      bytes : IsTrue m.tells → (whole : List ℕ) → length whole ≡ data_len l.self.shape → l.fn.buf ≡ range whole l.addr (length l.fn.buf)
          → l.buf ≡ range (applied (parts_in_turn l.self.shape (m.view l.fn.media).content.bytes (entries_of l.self) (take l.ballot-index l.queue)) whole) l.addr (length l.fn.buf);
    }
