use Rattle.std.proofs.Common.{◌≡◌, ◌+◌, length}
use Rattle.array_shape.specs.Parts.{parts_of}
use Rattle.logger.proofs.Dealing.{DealsAt}
use Rattle.logger.proofs.all_loggers.stage_write.Given as goal

abbrev pub invariant-loop-part : goal.invariant-loop-part
invariant-loop-part g l =
    let view = g.M.Media.view in
    record {
      deals : DealsAt l.shape l.tid l.fn.held l.addr l.bytes g.M.Media.tells (view l.fn.media) (view l.media) l.next l.part-iterator;
      costs : (view l.media).moment + length l.part-iterator ≡ (view l.fn.media).moment + length (parts_of l.shape l.addr (length l.bytes));
    }
