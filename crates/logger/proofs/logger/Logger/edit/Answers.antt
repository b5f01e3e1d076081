use Rattle.std.proofs.Common.{true, ◌≡◌, ◌+◌, ◌∙◌, ap, length, arith}
use Rattle.std.proofs.lemmas.Result.{on_ok_weaker}
use Rattle.mars_base.specs.Bytes.{put}
use Rattle.pcm_media.specs.Images.{Content}
use Rattle.array_shape.specs.Places.{media_len}
use Rattle.array_image.specs.Image.{cell_of}
use Rattle.array_image.proofs.Places.{cell_fits_in}
use Rattle.logger.proofs.Cells.{cell_of-put}
use Rattle.mars_base.proofs.Costing.{costs_one}
use Rattle.logger.proofs.logger.Logger.edit.Goals as goal

pub write-requires : goal.write-requires
write-requires g c = omega (arith, cell_fits_in c.args.self.shape c.args.self.number c.args.tid c.args.entry c.args.self.there c.requires.tid c.requires.entry)

pub returns-clause-cell : goal.returns-clause-cell
returns-clause-cell g c told =
    let old = (g.M.Media.view c.args.media.now).content in
    let long : length old.bytes ≡ media_len c.args.self.shape = g.met.M.Media.long c.args.media.now told ∙ c.requires.size in
    let cell = (λ i. cell_of c.args.self.shape (put old.bytes (c.cell_at-cell.ensures i + 16 + c.from.ensures i) c.args.bytes.now) c.args.self.number c.args.tid c.args.entry)
    ∙ cell_of-put c.args.self.shape c.args.self.number c.args.tid c.args.entry old.bytes long c.args.self.there c.requires.tid c.requires.entry c.args.at c.args.bytes.now c.requires.within in
    on_ok_weaker c.write.result (λ is. ap (λ (content : Content). cell_of c.args.self.shape content.bytes c.args.self.number c.args.tid c.args.entry) is ∙ cell) (c.write.ensures.written told)

pub returns-clause-costs : goal.returns-clause-costs
returns-clause-costs g c = costs_one true _ _ _ c.write.ensures.ticks
