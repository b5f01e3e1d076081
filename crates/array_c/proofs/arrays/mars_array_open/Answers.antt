use Rattle.array_c.proofs.Answering.{opened, unopened}
use Rattle.array_c.proofs.arrays.mars_array_open.Goals as goal

pub returns-in-Ok : goal.returns-in-Ok
returns-in-Ok c = opened _ _ _ _ _ c.in-None.ensures.array c.put-in-Ok.ensures c.in-Ok.ensures.opened

pub returns-in-Err : goal.returns-in-Err
returns-in-Err c = unopened _ _ _ _ _ c.in-None.ensures.array c.take.ensures.closed c.in-Err.ensures.cause
