use Rattle.std.proofs.Common.{◌≡◌, ◌+◌, ℕ, List, [], length, take}
use Rattle.std.specs.Prelude.{IsTrue, count_by}
use Rattle.mars_base.specs.Bytes.{range}
use Rattle.array_shape.specs.Places.{data_len}
use Rattle.array_shape.specs.Logged.{applied}
use Rattle.array_image.proofs.Calls.{SoFar}
use Rattle.write_back.specs.Entries.{parts_in}
use Rattle.write_back.specs.Reading.{meets}
use Rattle.write_back.proofs.overlay.lay_entries.Given as goal

abbrev pub invariant-loop-entry : goal.invariant-loop-entry
invariant-loop-entry g l =
    let m = g.M.Media in
    record {
      costs : (m.view l.media).moment ≡ (m.view l.fn.media).moment + count_by (meets l.addr (length l.fn.buf)) (take l.entry-index l.entries);
      does : SoFar m.tells [] (m.view l.fn.media) (m.view l.media);
      bytes : IsTrue m.tells → (whole : List ℕ) → length whole ≡ data_len l.shape → l.fn.buf ≡ range whole l.addr (length l.fn.buf)
          → l.buf ≡ range (applied (parts_in l.shape (m.view l.fn.media).content.bytes l.tid (take l.entry-index l.entries)) whole) l.addr (length l.fn.buf);
    }
