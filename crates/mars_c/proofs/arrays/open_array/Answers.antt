use Rattle.mars_c.proofs.Answering.{opened}
use Rattle.mars_c.proofs.arrays.open_array.Goals as goal

pub returns-in-Ok : goal.returns-in-Ok
returns-in-Ok c = opened _ _ _ _ _ _ _ c.in-None.ensures.array c.put-in-Ok.ensures c.in-Ok.ensures.opened
