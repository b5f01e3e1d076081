use Rattle.std.proofs.Common.{◌≡◌, ◌*◌, false, sym, arith}
use Rattle.device_recovery.specs.declared.which.Which.TheVariants.{Dropped}
use Rattle.device_recovery.specs.Table.{is_one_of}
use Rattle.device_recovery.proofs.Lists.{counted_row}
use Rattle.device_recovery.proofs.Order.{before_more, before_all}
use Rattle.device_recovery.proofs.settling.has_dropped.Goals as goal

pub loop-nth-preserved : goal.loop-nth-preserved
loop-nth-preserved c =
    let shape = c.args.shape.now in
    let at = c.nth_row-at.result in
    let is = c.nth_row-at.ensures in
    before_more shape.loggers (λ h t. is_one_of shape c.args.rows.now Dropped h t ≡ false) c.loop-nth.nth at.logger at.tid is.logger is.tid c.loop-nth.invariant (sym c.if-is_one_of.ensures)

pub returns-then-is_one_of-clause-some : goal.returns-then-is_one_of-clause-some
returns-then-is_one_of-clause-some c is =
    let at = c.nth_row-at.ensures in
    counted_row c.args.shape.now (is_one_of c.args.shape.now c.args.rows.now Dropped) c.nth_row-at.result.logger c.nth_row-at.result.tid at.one_logger at.one_number (sym c.if-is_one_of.ensures)

pub returns-clause-none : goal.returns-clause-none
returns-clause-none c is =
    let shape = c.args.shape.now in
    let all : c.loop-nth.nth ≡ shape.loggers * shape.numbers = omega arith in
    before_all shape.loggers (λ h t. is_one_of shape c.args.rows.now Dropped h t ≡ false) c.loop-nth.nth shape.numbers all c.loop-nth.invariant
