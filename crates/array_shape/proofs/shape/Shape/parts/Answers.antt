use Rattle.array_shape.proofs.Cutting.{parts_tile, parts_cut, parts_placed}
use Rattle.array_shape.proofs.shape.Shape.parts.Goals as goal

pub returns-clause-tile : goal.returns-clause-tile
returns-clause-tile c = parts_tile c.args.self.now c.args.addr c.args.len

pub returns-clause-cut : goal.returns-clause-cut
returns-clause-cut c = parts_cut c.args.self.now c.args.addr c.args.len

pub returns-clause-placed : goal.returns-clause-placed
returns-clause-placed c = parts_placed c.args.self.now c.args.addr c.args.len c.requires
