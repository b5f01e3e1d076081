use Rattle.std.proofs.Common.{true, refl, ◌≡◌, ◌≤◌, ◌∙◌, length, take, drop, arith}
use Rattle.std.proofs.lemmas.List.{length-drop, take_all}
use Rattle.array_shape.specs.Places.{media_len}
use Rattle.array_image.specs.Image.{cell_of}
use Rattle.array_image.proofs.Rows.{length-cell}
use Rattle.mars_base.proofs.Costing.{costs_all}
use Rattle.logger.proofs.logger.Logger.read_entry.Goals as goal

pub returns-clause-bytes : goal.returns-clause-bytes
returns-clause-bytes g c told =
    let shape = c.args.self.shape in
    let old = (g.M.Media.view c.args.media.now).content.bytes in
    let long : length old ≡ media_len shape = g.met.M.Media.long c.args.media.now told ∙ c.requires.size in
    let cell = cell_of shape old c.args.self.number c.args.tid c.args.entry in
    let cell_long = length-cell shape old c.args.self.number c.args.tid c.args.entry long c.args.self.there c.requires.tid c.requires.entry in
    let short : length (drop 16 (cell_of shape old c.args.self.number c.args.tid c.args.entry)) ≤ 512 = omega (arith, length-drop 16 cell) in
    c.copy_from_slice.ensures.after ∙ (λ i. take 512 (drop 16 (c.in_ok-read_cell.ensures.cell told i))) ∙ take_all 512 (drop 16 cell) short

pub returns-clause-costs : goal.returns-clause-costs
returns-clause-costs g c = costs_all true _ _ _ _ (c.in_ok-read_cell.ensures.costs.done refl)
