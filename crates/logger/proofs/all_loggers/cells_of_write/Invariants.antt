use Rattle.logger.proofs.Dealing.{CountsAt}
use Rattle.logger.proofs.all_loggers.cells_of_write.Given as goal

abbrev pub invariant-loop-part : goal.invariant-loop-part
invariant-loop-part l = CountsAt l.fn.shape l.fn.addr l.fn.len l.needed l.part-iterator
