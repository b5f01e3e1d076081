use Rattle.write_back.proofs.Queueing.{queue_laid}
use Rattle.write_back.proofs.laws.parts_are_the_queue.Goals as goal

pub returns : goal.returns
returns c image entries queue bytes long d_long written cells held all = queue_laid c.args.shape.now image long entries held all queue bytes written cells d_long
