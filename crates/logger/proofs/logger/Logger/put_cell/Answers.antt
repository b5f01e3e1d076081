use Rattle.std.proofs.Common.{◌∙◌, length, ap, arith}
use Rattle.std.proofs.lemmas.Result.{on_ok_weaker}
use Rattle.mars_base.specs.Bytes.{put}
use Rattle.pcm_media.proofs.Writing.{writes_within}
use Rattle.array_image.proofs.Places.{cell_fits_in}
use Rattle.logger.proofs.logger.Logger.put_cell.Goals as goal

pub write-requires : goal.write-requires
write-requires g c = omega (arith, ap length c.fill_cell.ensures, cell_fits_in c.args.self.shape c.args.self.number c.args.tid c.args.entry c.args.self.there c.requires.tid c.requires.entry)

pub returns-clause-written : goal.returns-clause-written
returns-clause-written g c told =
    let old = (g.M.Media.view c.args.media.now).content.bytes in
    on_ok_weaker c.write.result (λ is. (λ i. (is i).bytes) ∙ (λ i. put old (c.cell_at.ensures i) (c.fill_cell.ensures i))) (c.write.ensures.written told)

pub returns-clause-does : goal.returns-clause-does
returns-clause-does g c =
    writes_within g.M.Media.tells _ _ _ _ c.write.result (λ i out. (
      λ low high. out.0 (omega (arith, low, c.cell_at.ensures)) (omega (arith, high, c.cell_at.ensures, ap length c.fill_cell.ensures, c.requires.long)),
      tt,
    )) c.write.ensures.does
