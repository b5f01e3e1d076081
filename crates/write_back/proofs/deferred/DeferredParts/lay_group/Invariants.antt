use Rattle.std.proofs.Common.{◌≡◌, ◌+◌, ℕ, cond, List, [], length}
use Rattle.std.specs.Prelude.{IsTrue, count_by}
use Rattle.mars_base.specs.Bytes.{range}
use Rattle.array_shape.specs.Places.{data_len}
use Rattle.array_shape.specs.Logged.{applied}
use Rattle.array_shape.specs.NumberSet.{has}
use Rattle.array_image.specs.Joined.{joined}
use Rattle.array_image.proofs.Calls.{SoFar}
use Rattle.write_back.specs.Entries.{parts_in}
use Rattle.write_back.specs.Shown.{entries_of}
use Rattle.write_back.specs.Reading.{meets}
use Rattle.write_back.proofs.deferred.DeferredParts.lay_group.Given as goal

abbrev pub invariant-loop-tid : goal.invariant-loop-tid
invariant-loop-tid g l =
    let m = g.M.Media in
    record {
      costs : (m.view l.media).moment ≡ (m.view l.fn.media).moment + count_by (meets l.addr (length l.fn.buf)) (joined (λ t. cond (has l.group t) (entries_of l.self t) []) 0 l.tid);
      does : SoFar m.tells [] (m.view l.fn.media) (m.view l.media);
      bytes : IsTrue m.tells → (whole : List ℕ) → length whole ≡ data_len l.self.shape → l.fn.buf ≡ range whole l.addr (length l.fn.buf)
          → l.buf ≡ range (applied (joined (λ t. cond (has l.group t) (parts_in l.self.shape (m.view l.fn.media).content.bytes t (entries_of l.self t)) []) 0 l.tid) whole) l.addr (length l.fn.buf);
    }
