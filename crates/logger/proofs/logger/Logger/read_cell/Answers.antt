use Rattle.std.proofs.Common.{true, arith}
use Rattle.array_image.proofs.Places.{cell_fits_in}
use Rattle.mars_base.proofs.Costing.{costs_one}
use Rattle.logger.proofs.logger.Logger.read_cell.Goals as goal

pub read-requires : goal.read-requires
read-requires g c = omega (arith, cell_fits_in c.args.self.shape c.args.self.number c.args.tid c.args.entry c.args.self.there c.requires.tid c.requires.entry)

pub returns-clause-costs : goal.returns-clause-costs
returns-clause-costs g c = costs_one true _ _ _ c.read.ensures.ticks
