use Rattle.std.proofs.Common.{nat_lt, ap, arith}
use Rattle.std.proofs.lemmas.Bool.{le-ltb, lt-ltb}
use Rattle.coordinator.specs.declared.cells.Cells.{Cells}
use Rattle.coordinator.specs.Commits.{cells_in}
use Rattle.coordinator.proofs.Masks.{mask_gains, mask_skips}
use Rattle.coordinator.proofs.ballots.loggers_of.Goals as goal

pub loop-logger-preserved-then-cells_in-eq0 : goal.loop-logger-preserved-then-cells_in-eq0
loop-logger-preserved-then-cells_in-eq0 c =
    let its = ap (λ (k : Cells). k.count) c.cells_in.ensures in
    mask_skips (λ g. nat_lt 0 (cells_in c.args.cells.now g c.args.tid).count) c.loop-logger.logger c.loop-logger.mask c.loop-logger.invariant
    (le-ltb 0 (cells_in c.args.cells.now c.loop-logger.logger c.args.tid).count (omega (arith, its, c.if-cells_in-eq0.true)))

pub loop-logger-preserved : goal.loop-logger-preserved
loop-logger-preserved c =
    let its = ap (λ (k : Cells). k.count) c.cells_in.ensures in
    mask_gains (λ g. nat_lt 0 (cells_in c.args.cells.now g c.args.tid).count) c.loop-logger.logger c.loop-logger.mask (omega arith) c.loop-logger.invariant
    (lt-ltb 0 (cells_in c.args.cells.now c.loop-logger.logger c.args.tid).count (omega (arith, its, c.if-cells_in-eq0.false)))
