use Rattle.image_pieces.proofs.Images.{image_new}
use Rattle.image_pieces.proofs.image.ArrayImage.new.Goals as goal

pub returns-clause-new : goal.returns-clause-new
returns-clause-new g c = image_new c.args.shape.now (g.P.PageSource.pages c.args.source) c.requires
