use Rattle.std.proofs.Common.{◌≡◌, ◌*◌, ◌/◌, ◌%◌, IsTrue}
use Rattle.mars_base.proofs.Costing.{CostsSoFar}
use Rattle.device_recovery.specs.declared.which.Which.TheVariants.{DecidedAs}
use Rattle.device_recovery.specs.Table.{row_in, is_one_of}
use Rattle.device_recovery.specs.Recovered.{cells_if, total}
use Rattle.array_shape.specs.Logged.{places_of}
use Rattle.array_image.specs.Image.{data_of}
use Rattle.array_image.specs.Decided.{order_parts}
use Rattle.array_image.proofs.Calls.{SoFar}
use Rattle.device_recovery.proofs.Applying.{rows_data}
use Rattle.device_recovery.proofs.settling.apply_order.Given as goal

abbrev pub invariant-loop-nth : goal.invariant-loop-nth
invariant-loop-nth g l =
    let m = g.M.Media in
    let base = (m.view l.fn.media).content.bytes in
    record {
      costs : CostsSoFar m.tells (2 * total (λ k. cells_if (is_one_of l.shape l.rows (DecidedAs l.order)) (row_in l.rows) (k % l.shape.loggers) (k / l.shape.loggers)) l.nth) (m.view l.fn.media).moment (m.view l.media).moment;
      does : SoFar m.tells (places_of l.shape (order_parts l.shape base l.order)) (m.view l.fn.media) (m.view l.media);
      applied : IsTrue m.tells → data_of l.shape (m.view l.media).content.bytes ≡ rows_data l.shape base l.order l.nth;
    }
