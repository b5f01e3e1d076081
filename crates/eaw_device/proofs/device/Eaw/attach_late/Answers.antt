use Rattle.std.proofs.Common.{List, length, ap}
use Rattle.row_bytes.specs.declared.ballot.Ballot.{Ballot}
use Rattle.eaw_device.proofs.Depths.{keeps_depth}
use Rattle.eaw_device.proofs.OpenedLemmas.{opened_sound, opened, found}
use Rattle.eaw_device.proofs.device.Eaw.attach_late.Goals as goal

pub invariant_of-result : goal.invariant_of-result
invariant_of-result g c = record {
  sound = opened_sound g.M.Media.tells _ _ _ _ _ c.in-Ok.ensures.settled c.in-Ok.ensures.free _ c.in-Ok.ensures.late;
  depth = keeps_depth g.D.Depth.least g.D.Depth.most _ _ c.in-Ok.ensures.late.depth_is c.requires;
}

pub returns-in-Ok-clause-opens : goal.returns-in-Ok-clause-opens
returns-in-Ok-clause-opens g c = opened g.M.Media.tells _ _ _ _ _ c.in-Ok.ensures.settled c.in-Ok.ensures.free _ c.in-Ok.ensures.late

pub returns-in-Ok-clause-found : goal.returns-in-Ok-clause-found
returns-in-Ok-clause-found g c = found g.M.Media.tells _ _ _ _ _ c.in-Ok.ensures.settled c.in-Ok.ensures.free _ c.in-Ok.ensures.late

pub returns-in-Ok-clause-none_waits : goal.returns-in-Ok-clause-none_waits
returns-in-Ok-clause-none_waits g c = ap (λ (bs : List Ballot). length bs) c.in-Ok.ensures.late.none
