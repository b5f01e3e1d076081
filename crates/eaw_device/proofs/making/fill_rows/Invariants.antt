use Rattle.std.proofs.Common.{◌≡◌, Ok, Result}
use Rattle.std.specs.Prelude.{IsTrue}
use Rattle.mars_base.specs.declared.Failed.{Failed}
use Rattle.pcm_media.specs.View.{Writes}
use Rattle.array_image.specs.Image.{data_of}
use Rattle.array_image.specs.Standing.{SameCells}
use Rattle.eaw_device.specs.Made.{HasRows, behind_header}
use Rattle.eaw_device.proofs.making.fill_rows.Given as goal

abbrev pub invariant-loop-logger : goal.invariant-loop-logger
invariant-loop-logger g l =
    let m = g.M.Media in
    record {
      rows : IsTrue m.tells → HasRows l.shape l.logger (m.view l.media).content.bytes;
      data_same : IsTrue m.tells → data_of l.shape (m.view l.media).content.bytes ≡ data_of l.shape (m.view l.fn.media).content.bytes;
      cells : IsTrue m.tells → SameCells l.shape (m.view l.fn.media).content.bytes (m.view l.media).content.bytes;
      does : let done : Result (Unit {0}) Failed = Ok tt in Writes m.tells (behind_header l.shape) (m.view l.fn.media) (m.view l.media) done;
    }
