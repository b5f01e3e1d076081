use Rattle.std.proofs.Common.{Ok, Result}
use Rattle.std.specs.Prelude.{IsTrue}
use Rattle.mars_base.specs.declared.Failed.{Failed}
use Rattle.pcm_media.specs.View.{Writes}
use Rattle.array_image.specs.Standing.{SameCells}
use Rattle.eaw_device.specs.Made.{HasPages, behind_header}
use Rattle.eaw_device.proofs.making.write_pages.Given as goal

abbrev pub invariant-loop-page : goal.invariant-loop-page
invariant-loop-page g l =
    let m = g.M.Media in
    record {
      pages : IsTrue m.tells → HasPages l.shape (g.P.PageSource.pages l.source) l.page (m.view l.media).content.bytes;
      cells : IsTrue m.tells → SameCells l.shape (m.view l.fn.media).content.bytes (m.view l.media).content.bytes;
      does : let done : Result (Unit {0}) Failed = Ok tt in Writes m.tells (behind_header l.shape) (m.view l.fn.media) (m.view l.media) done;
    }
