use Rattle.std.proofs.Common.{◌≡◌, ◌*◌, ◌≤◌, ◌-◌, IsTrue}
use Rattle.mars_base.proofs.Costing.{CostsSoFar}
use Rattle.device_recovery.specs.Table.{cells_in_order}
use Rattle.device_recovery.specs.Recovered.{total}
use Rattle.array_shape.specs.Logged.{applied, places_of}
use Rattle.array_image.specs.Joined.{joined}
use Rattle.array_image.specs.Image.{data_of}
use Rattle.array_image.specs.Decided.{all_decided, order_parts}
use Rattle.array_image.proofs.Calls.{SoFar}
use Rattle.device_recovery.proofs.settling.apply_all.Given as goal

abbrev pub invariant-loop-order : goal.invariant-loop-order
invariant-loop-order g l =
    let m = g.M.Media in
    let base = (m.view l.fn.media).content.bytes in
    record {
      most : l.from ≤ 65536;
      costs : CostsSoFar m.tells (2 * total (cells_in_order l.shape l.rows) l.from) (m.view l.fn.media).moment (m.view l.media).moment;
      does : SoFar m.tells (places_of l.shape (all_decided l.shape base)) (m.view l.fn.media) (m.view l.media);
      applied : IsTrue m.tells → data_of l.shape (m.view l.media).content.bytes ≡ applied (joined (order_parts l.shape base) 0 l.from) (data_of l.shape base);
    }

abbrev pub decreases-loop-order : goal.decreases-loop-order
decreases-loop-order g l = 65536 - l.from
