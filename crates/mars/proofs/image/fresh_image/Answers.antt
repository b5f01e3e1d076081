use Rattle.std.proofs.Common.{refl}
use Rattle.mars.proofs.image.fresh_image.Goals as goal

pub returns-in-Ok : goal.returns-in-Ok
returns-in-Ok c =
    record {
      fresh = (c.default-shape.result, c.default-shape.ensures, c.in-Ok.ensures.fresh refl);
    }
