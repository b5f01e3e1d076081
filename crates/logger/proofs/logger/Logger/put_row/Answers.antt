use Rattle.std.proofs.Common.{true, ◌≡◌, ◌+◌, take, drop, ◌∙◌, ap, length, arith}
use Rattle.std.proofs.lemmas.Result.{on_ok_weaker}
use Rattle.mars_base.specs.Bytes.{put}
use Rattle.pcm_media.specs.Images.{Content}
use Rattle.array_shape.specs.Places.{media_len}
use Rattle.array_image.specs.Image.{row_of}
use Rattle.array_image.proofs.Places.{row_fits_in}
use Rattle.logger.proofs.Rows.{row_of-put_rest}
use Rattle.mars_base.proofs.Costing.{costs_one}
use Rattle.logger.proofs.logger.Logger.put_row.Goals as goal

pub write-requires : goal.write-requires
write-requires g c = omega (arith, row_fits_in c.args.self.shape c.args.self.number c.args.tid c.args.self.there c.requires.tid)

pub returns-clause-row : goal.returns-clause-row
returns-clause-row g c told =
    let old = (g.M.Media.view c.args.media.now).content in
    let long : length old.bytes ≡ media_len c.args.self.shape = g.met.M.Media.long c.args.media.now told ∙ c.requires.size in
    let row = (λ i. row_of c.args.self.shape (put old.bytes (c.row_at.ensures i + 1) (take 15 (drop 1 (c.write_row.ensures.written i)))) c.args.self.number c.args.tid)
    ∙ row_of-put_rest c.args.self.shape c.args.self.number c.args.tid old.bytes long c.args.self.there c.requires.tid c.args.row (record { first = omega arith; count = omega arith; group = omega arith; order = omega arith }) in
    on_ok_weaker c.write.result (λ is. ap (λ (content : Content). row_of c.args.self.shape content.bytes c.args.self.number c.args.tid) is ∙ row) (c.write.ensures.written told)

pub returns-clause-costs : goal.returns-clause-costs
returns-clause-costs g c = costs_one true _ _ _ c.write.ensures.ticks
