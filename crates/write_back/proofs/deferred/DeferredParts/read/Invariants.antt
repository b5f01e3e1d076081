use Rattle.std.proofs.Common.{◌+◌, [], length}
use Rattle.array_shape.specs.Logged.{applied}
use Rattle.array_image.specs.Image.{data_of}
use Rattle.array_image.proofs.Calls.{SoFar}
use Rattle.write_back.specs.Reading.{read_calls}
use Rattle.write_back.specs.Shown.{entries_of}
use Rattle.write_back.specs.Turns.{in_turn, parts_in_turn}
use Rattle.write_back.proofs.Filling.{FillsAt}
use Rattle.write_back.proofs.deferred.DeferredParts.read.Given as goal

abbrev pub invariant-loop-part : goal.invariant-loop-part
invariant-loop-part g l =
    let m = g.M.Media in
    let image = (m.view l.fn.media).content.bytes in
    let shape = l.self.shape in
    record {
      does : SoFar m.tells [] (m.view l.fn.media) (m.view l.media);
      fills : FillsAt l.self.shape l.addr (length l.fn.buf) (applied (parts_in_turn l.self.shape (m.view l.fn.media).content.bytes (entries_of l.self) l.queue) (data_of l.self.shape (m.view l.fn.media).content.bytes)) l.buf m.tells
          (in_turn l.self.shape (entries_of l.self) l.queue) (m.view l.media).moment ((m.view l.fn.media).moment + read_calls l.self.shape (entries_of l.self) l.queue l.addr (length l.fn.buf)) l.part-iterator;
    }
