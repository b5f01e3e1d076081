use Rattle.std.proofs.Common.{sym, ◌∙◌}
use Rattle.image_pieces.proofs.Images.{ends}
use Rattle.image_pieces.proofs.image.ArrayImage.len.Goals as goal

pub returns : goal.returns
returns g c = rw (← c.self.view_is) (c.media_len.ensures ∙ sym (ends c.self.inside.shape (g.P.PageSource.pages c.self.inside.source) c.self.invariant.1 c.self.inside.stage c.self.invariant.0))
