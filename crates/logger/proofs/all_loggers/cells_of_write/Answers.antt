use Rattle.std.proofs.Common.{ℕ, ◌+◌, sym, ap, subst, arith}
use Rattle.std.specs.Prelude.{slice_index, slice_set}
use Rattle.logger.proofs.Dealing.{CountsAt, counted_fits, counts_next}
use Rattle.logger.proofs.all_loggers.cells_of_write.Goals as goal

pub overflow_add-needed : goal.overflow_add-needed
overflow_add-needed c =
    let fits = counted_fits c.args.shape.now c.args.addr c.args.len c.loop-part.needed c.in-Some.part c.loop-part.part-iterator c.next.new.self c.in-Some.ensures.steps c.loop-part.invariant c.requires in
    omega (arith, fits, ap (slice_index c.loop-part.needed) c.from.ensures)

pub loop-part-preserved : goal.loop-part-preserved
loop-part-preserved c =
    subst (λ (k : ℕ). CountsAt c.args.shape.now c.args.addr c.args.len (slice_set c.loop-part.needed k (slice_index c.loop-part.needed k + 1)) c.next.new.self) (sym c.from.ensures)
    (counts_next c.args.shape.now c.args.addr c.args.len c.loop-part.needed c.in-Some.part c.loop-part.part-iterator c.next.new.self c.in-Some.ensures.steps c.loop-part.invariant)
