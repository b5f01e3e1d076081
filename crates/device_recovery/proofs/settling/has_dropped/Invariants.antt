use Rattle.std.proofs.Common.{◌≡◌, false}
use Rattle.device_recovery.specs.declared.which.Which.TheVariants.{Dropped}
use Rattle.device_recovery.specs.Table.{is_one_of}
use Rattle.device_recovery.proofs.Order.{Before}
use Rattle.device_recovery.proofs.settling.has_dropped.Given as goal

abbrev pub invariant-loop-nth : goal.invariant-loop-nth
invariant-loop-nth l = Before l.shape.loggers (λ h t. is_one_of l.shape l.rows Dropped h t ≡ false) l.nth
