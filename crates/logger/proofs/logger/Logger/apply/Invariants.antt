use Rattle.std.proofs.Common.{◌-◌, ◌*◌}
use Rattle.mars_base.proofs.Costing.{CostsSoFar}
use Rattle.logger.proofs.Applying.{AppliedTo}
use Rattle.logger.proofs.logger.Logger.apply.Given as goal

abbrev pub invariant-loop-entry : goal.invariant-loop-entry
invariant-loop-entry g l =
    let view = g.M.Media.view in
    record {
      applied : AppliedTo l.self.shape l.self.number l.tid l.first l.count g.M.Media.tells (view l.fn.media) (view l.media) l.entry;
      costs : CostsSoFar g.M.Media.tells (2 * (l.entry - l.first)) (view l.fn.media).moment (view l.media).moment;
    }
